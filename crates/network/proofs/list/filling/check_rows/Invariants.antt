use Rattle.std.proofs.Common.{◌≡◌, drop}
use Rattle.network.specs.Questions.{rows_asked}
use Rattle.network.proofs.list.filling.check_rows.Given as goal

-- what is left of the table has the same first fault
abbrev pub invariant-loop-k : goal.invariant-loop-k
invariant-loop-k l = rows_asked l.nodes l.k (drop l.k l.table) ≡ rows_asked l.nodes 0 l.table
