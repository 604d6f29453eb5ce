use Rattle.std.proofs.Common.{◌≡◌, length}
use Rattle.network.proofs.Numbered.{Given}
use Rattle.search.proofs.Walks.{met_of}
use Rattle.search.proofs.reach.touching.Given as goal

-- the nodes that the branches so far join to the set
abbrev pub invariant-loop-b : goal.invariant-loop-b
invariant-loop-b g l =
    let net = g.N.Network.net l.network in
    Given net.branches (length l.yielded) l.b-iterator × (l.met ≡ met_of l.over net l.set (length l.yielded))
