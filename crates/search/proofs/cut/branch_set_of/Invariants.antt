use Rattle.std.proofs.Common.{◌≡◌, length}
use Rattle.network.proofs.Numbered.{Given}
use Rattle.sets.specs.Masks.{collect}
use Rattle.search.specs.Search.{crossing}
use Rattle.search.proofs.cut.branch_set_of.Given as goal

-- those of the branches so far that are parted
abbrev pub invariant-loop-k : goal.invariant-loop-k
invariant-loop-k g l =
    let net = g.N.Network.net l.network in
    Given net.branches (length l.yielded) l.k-iterator × (l.set ≡ collect (length l.yielded) (crossing net l.row.inside))
