use Rattle.std.proofs.Common.{◌≡◌, take}
use Rattle.chance.proofs.ratings.Ratings.of.Given as goal

abbrev pub invariant-loop-branch : goal.invariant-loop-branch
invariant-loop-branch g l = l.table.items ≡ take l.branch (g.N.RatedNetwork.rated l.network).ratings
