-- The scale of 0, 1, and m / 10^e with m of nine figures and e from 9 to 60.
use Rattle.std.specs.Prelude.{ℕ, zero, suc, ◌+◌, ◌*◌, ◌/◌, ◌^◌, min, max, cond, ◌==◌, nat_le, nat_lt}
use Rattle.std.proofs.Common.{arith}
use Rattle.scale.specs.Quotients.{ceil_div}
use Rattle.scale.specs.Fractions.{Fraction, decimal}
use Rattle.scale.specs.Arithmetic.{Arithmetic}
use Rattle.scale.specs.Rounding.{Rounding, arithmetic_of}
use Rattle.scale.specs.declared.nine_figures.Decimal.{Decimal}

abbrev pub worth : Decimal → Fraction
worth x = decimal x.figures x.exponent

abbrev pub nought : Decimal
nought = record { figures = 0; exponent = 9; form = omega arith }

abbrev pub unit : Decimal
unit = record { figures = 100000000; exponent = 8; form = omega arith }

-- m / 10^e, with m held to nine figures, and e from 9 to 60
abbrev pub nine : ℕ → ℕ → Decimal
nine m e = record { figures = max 100000000 (min m 999999999); exponent = max 9 (min e 60); form = omega arith }

-- Let m e be the figures of a fraction at the exponent e. This is the largest k up to n at which m (8 + k) has at most nine figures; or 0.
unfoldable pub fit : (ℕ → ℕ) → ℕ → ℕ
fit m zero = 0
fit m (suc k) = cond (nat_le (m (8 + suc k)) 999999999) (suc k) (fit m k)

-- 1 where the figures are more than nine at each exponent, and 0 where they are fewer than nine at the last
unfoldable pub floor : Fraction → Decimal
floor q =
    let m : ℕ → ℕ = λ e. q.top * 10 ^ e / q.under in
    let e : ℕ = 8 + fit m 52 in
    cond (nat_le e 8) unit (cond (nat_lt (m e) 100000000) nought (nine (m e) e))

-- 1 where the figures are more than nine at each exponent; 0 of 0 alone
unfoldable pub ceiling : Fraction → Decimal
ceiling q =
    let m : ℕ → ℕ = λ e. ceil_div (q.top * 10 ^ e) q.under in
    let e : ℕ = 8 + fit m 52 in
    cond (nat_le e 8) unit (cond (m e == 0) nought (nine (m e) e))

abbrev pub nine_rounding : Rounding Decimal
nine_rounding = record { value = worth; down = floor; up = ceiling }

abbrev pub nine_figures : Arithmetic Decimal
nine_figures = arithmetic_of nine_rounding
