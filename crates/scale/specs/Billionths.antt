-- The scale w / 10^9, with w from 0 to 10^9.
use Rattle.std.specs.Prelude.{ℕ, ◌*◌, ◌/◌, min}
use Rattle.std.proofs.Common.{arith}
use Rattle.scale.specs.Quotients.{ceil_div}
use Rattle.scale.specs.Fractions.{Fraction, decimal}
use Rattle.scale.specs.Arithmetic.{Arithmetic}
use Rattle.scale.specs.Rounding.{Rounding, arithmetic_of}
use Rattle.scale.specs.declared.billionths.Billionth.{Billionth}

abbrev pub worth : Billionth → Fraction
worth x = decimal x.units 9

-- n billionths, held at 1
abbrev pub held : ℕ → Billionth
held n = record { units = min n 1000000000; to_one = omega arith }

abbrev pub floor : Fraction → Billionth
floor q = held (q.top * 1000000000 / q.under)

abbrev pub ceiling : Fraction → Billionth
ceiling q = held (ceil_div (q.top * 1000000000) q.under)

abbrev pub billionth_rounding : Rounding Billionth
billionth_rounding = record { value = worth; down = floor; up = ceiling }

abbrev pub billionths : Arithmetic Billionth
billionths = arithmetic_of billionth_rounding
