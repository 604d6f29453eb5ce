-- The cut that a row lists.
use Rattle.network.specs.declared.cut.Cut.{Cut}
use Rattle.network.specs.Meaning.{Net}
use Rattle.search.specs.declared.row.Row.{Row}
use Rattle.search.specs.Search.{branch_set, node_vector}

abbrev pub row_cut : Net → Row → Cut
row_cut net row = record { branches = branch_set net row; nodes = node_vector net row }
