-- The scale of 0 and 1.
use Rattle.std.specs.Prelude.{cond, ◌==◌, nat_le}
use Rattle.scale.specs.Fractions.{Fraction, whole}
use Rattle.scale.specs.Arithmetic.{Arithmetic}
use Rattle.scale.specs.Rounding.{Rounding, arithmetic_of}
use Rattle.two_values.specs.declared.extreme.Extreme.{Extreme}
use Rattle.two_values.specs.declared.extreme.Extreme.TheVariants.{Never, Surely}

abbrev pub worth : Extreme → Fraction
worth Never = whole 0
worth Surely = whole 1

-- 1 of 1 and more
abbrev pub floor : Fraction → Extreme
floor q = cond (nat_le q.under q.top) Surely Never

-- 0 of 0 alone
abbrev pub ceiling : Fraction → Extreme
ceiling q = cond (q.top == 0) Never Surely

abbrev pub two_rounding : Rounding Extreme
two_rounding = record { value = worth; down = floor; up = ceiling }

abbrev pub two_values : Arithmetic Extreme
two_values = arithmetic_of two_rounding
