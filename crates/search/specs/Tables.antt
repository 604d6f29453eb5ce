-- The rows of a table as a list, and one row changed.
use Rattle.std.specs.Prelude.{ℕ, List, take, bit_or, slice_set}
use Rattle.search.specs.declared.row.Row.{Row}
use Rattle.search.specs.declared.table.Table.{Table}
use Rattle.search.specs.Search.{single, row_at}

abbrev pub rows_of : Table → List Row
rows_of t = take t.count t.rows

-- the rows with node v barred too in row k alone
abbrev pub barred_at : ℕ → ℕ → List Row → List Row
barred_at k v rs = slice_set rs k (record { inside = (row_at rs k).inside; barred = bit_or (row_at rs k).barred (single v) })
