-- Rows as the bounds see them.
use Rattle.std.specs.Prelude.{ℕ, List, map}
use Rattle.network.specs.declared.cut.Cut.{Cut}

-- the branch sets of rows, in listing order
abbrev pub branch_sets : List Cut → List ℕ
branch_sets rows = map (λ row. row.branches) rows
