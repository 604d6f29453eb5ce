use Rattle.std.proofs.Common.{◌+◌}
use Rattle.search.specs.Tables.{rows_of}
use Rattle.search.specs.Steps.{Shut}
use Rattle.search.proofs.plan.first_try.Given as goal

-- none of the rows so far has a candidate
abbrev pub invariant-loop-i : goal.invariant-loop-i
invariant-loop-i g l = Shut (g.N.Network.net l.network) (rows_of l.table) (l.first + l.i)
