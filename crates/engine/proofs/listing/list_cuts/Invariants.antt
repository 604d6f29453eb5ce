use Rattle.std.proofs.Common.{◌≡◌, map, take}
use Rattle.search.specs.Tables.{rows_of}
use Rattle.search.specs.Listed.{row_cut}
use Rattle.engine.proofs.listing.list_cuts.Given as goal

-- the cuts of the rows so far
abbrev pub invariant-loop-row : goal.invariant-loop-row
invariant-loop-row g l = l.cuts.items ≡ map (row_cut (g.N.Network.net l.network)) (take l.row-index (rows_of l.table))
