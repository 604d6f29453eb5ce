use Rattle.std.proofs.Common.{◌≡◌, ℕ, ◌+◌, ◌-◌}
use Rattle.search.specs.Search.{run, searched}
use Rattle.search.specs.Tables.{rows_of}
use Rattle.search.specs.Steps.{Shut}
use Rattle.search.proofs.run.run_tries.Given as goal

-- the first rows are done with, and the tries that are left give the answer
abbrev pub invariant-loop-tries : goal.invariant-loop-tries
invariant-loop-tries g l =
    let net = g.N.Network.net l.network in
    Shut net (rows_of l.table) l.first
    × ((t : ℕ) → run net l.door (l.budget - l.tries) (searched (rows_of l.table) (t + l.tries)) ≡ run net l.door l.budget (searched (rows_of l.initial.table) t))
