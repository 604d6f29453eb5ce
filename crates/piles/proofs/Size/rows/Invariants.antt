use Rattle.std.proofs.Common.{◌≡◌, map}
use Rattle.std.specs.List.{range_with_len}
use Rattle.piles.specs.Rows.{row_of}
use Rattle.piles.proofs.Size.rows.Given as goal

-- the rows so far
abbrev pub invariant-loop-k : goal.invariant-loop-k
invariant-loop-k l = l.rows.items ≡ map (λ k. row_of l.round k l.mantissa l.exponent) (range_with_len 0 l.k)
