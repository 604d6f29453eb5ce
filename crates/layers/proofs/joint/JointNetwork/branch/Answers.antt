use Rattle.std.proofs.Common.{◌∙◌, arith}
use Rattle.layers.proofs.JointNet.{nth-joint-none, nth-joint-first, nth-joint-second}
use Rattle.layers.proofs.Layers.{joined-branch}
use Rattle.layers.proofs.joint.JointNetwork.branch.Goals as goal

pub returns-then-not-joinable : goal.returns-then-not-joinable
returns-then-not-joinable g c =
    let s = c.args.self.now in
    let first = g.P.Network.net s.first in
    let second = g.Q.Network.net s.second in
    let meaning = nth-joint-none s.node first second c.args.k c.if-not-joinable.ensures in
    record { meaning = meaning; law = rw meaning (joined-branch s.node first second c.args.k) }

pub returns-then-k-count : goal.returns-then-k-count
returns-then-k-count g c =
    let s = c.args.self.now in
    let first = g.P.Network.net s.first in
    let second = g.Q.Network.net s.second in
    let meaning = c.branch-self.ensures ∙ nth-joint-first s.node first second c.if-not-joinable.ensures c.args.k (omega arith) in
    record { meaning = meaning; law = rw meaning (joined-branch s.node first second c.args.k) }

pub invariant_of-renumbering : goal.invariant_of-renumbering
invariant_of-renumbering g c = let p = g.P.Network.legal c.args.self.now.first in omega arith

pub returns : goal.returns
returns g c =
    let s = c.args.self.now in
    let first = g.P.Network.net s.first in
    let second = g.Q.Network.net s.second in
    let meaning =
    c.branch-renumbering.ensures
    ∙ nth-joint-second s.node first second c.if-not-joinable.ensures c.args.k _ _ c.branches-count.ensures c.if-k-count.false c.nodes.ensures in
    record { meaning = meaning; law = rw meaning (joined-branch s.node first second c.args.k) }
