-- The rows of the lists that are piled.
use Rattle.std.specs.Prelude.{ℕ, ◌+◌, ◌*◌, ◌%◌}
use Rattle.network.specs.declared.branch.TableRow.{TableRow}
use Rattle.network.specs.declared.branch.Condition.TheVariants.{Able}

-- row k lies between nodes k and 7 k + 3, counted round
abbrev pub row_of : ℕ → ℕ → ℕ → ℕ → TableRow
row_of n k m e = record { from = k % n; to = (7 * k + 3) % n; mantissa = m + k; exponent = e; condition = Able }
