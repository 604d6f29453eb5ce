-- How many nodes the rows bar in all: each try bars one more.
use Rattle.std.specs.Prelude.{ℕ, List, sum_by}
use Rattle.sets.specs.Masks.{has, count}
use Rattle.search.specs.declared.row.Row.{Row}

unfoldable pub barred_nodes : Row → ℕ
barred_nodes r = count 32 (has r.barred)

abbrev pub all_barred : List Row → ℕ
all_barred rows = sum_by barred_nodes rows
