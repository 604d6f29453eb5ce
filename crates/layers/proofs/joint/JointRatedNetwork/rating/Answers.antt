use Rattle.std.proofs.Common.{◌∙◌, ap₂}
use Rattle.layers.specs.Meaning.{joint_net}
use Rattle.layers.proofs.JointNet.{nth-rated-none, nth-rated-first, nth-rated-second}
use Rattle.layers.proofs.Layers.{joined-rating}
use Rattle.layers.proofs.joint.JointRatedNetwork.rating.Goals as goal

pub returns-then-not-joinable : goal.returns-then-not-joinable
returns-then-not-joinable g c =
    let s = c.args.self.now in
    let p = g.P.RatedNetwork.rated s.first in
    let q = g.Q.RatedNetwork.rated s.second in
    let same-p = g.met.P.RatedNetwork.same s.first in
    let same-q = g.met.Q.RatedNetwork.same s.second in
    let legal = g.P.RatedNetwork.legal s.first in
    let answer = nth-rated-none s.node p q _ _ same-p same-q c.if-not-joinable.ensures c.args.k in
    record { answer = answer; same = ap₂ (joint_net s.node) same-p same-q; law = rw answer (joined-rating s.node p q _ _ c.args.k legal same-p same-q) }

pub returns-then-k-count : goal.returns-then-k-count
returns-then-k-count g c =
    let s = c.args.self.now in
    let p = g.P.RatedNetwork.rated s.first in
    let q = g.Q.RatedNetwork.rated s.second in
    let same-p = g.met.P.RatedNetwork.same s.first in
    let same-q = g.met.Q.RatedNetwork.same s.second in
    let legal = g.P.RatedNetwork.legal s.first in
    let answer =
    c.rating.ensures.answer
    ∙ nth-rated-first s.node p q _ _ same-p same-q legal c.if-not-joinable.ensures c.args.k _ c.branches-count.ensures c.if-k-count.true in
    record { answer = answer; same = ap₂ (joint_net s.node) same-p same-q; law = rw answer (joined-rating s.node p q _ _ c.args.k legal same-p same-q) }

pub returns : goal.returns
returns g c =
    let s = c.args.self.now in
    let p = g.P.RatedNetwork.rated s.first in
    let q = g.Q.RatedNetwork.rated s.second in
    let same-p = g.met.P.RatedNetwork.same s.first in
    let same-q = g.met.Q.RatedNetwork.same s.second in
    let legal = g.P.RatedNetwork.legal s.first in
    let answer =
    c.rating-2.ensures.answer
    ∙ nth-rated-second s.node p q _ _ same-p same-q legal c.if-not-joinable.ensures c.args.k _ c.branches-count.ensures c.if-k-count.false in
    record { answer = answer; same = ap₂ (joint_net s.node) same-p same-q; law = rw answer (joined-rating s.node p q _ _ c.args.k legal same-p same-q) }
