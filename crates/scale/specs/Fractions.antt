-- Fractions: one whole number over another above 0, compared by cross-multiplication.
use Rattle.std.specs.Prelude.{◌≡◌, ℕ, ◌+◌, ◌-◌, ◌*◌, ◌^◌, ◌<◌, ◌≤◌}
use Rattle.std.proofs.Common.{mul-pos, arith}
use Rattle.std.proofs.Math.Nat.{one-le-pow}

infix 50 ◌≤ᶠ◌
infix 50 ◌=ᶠ◌
infixl 60 ◌+ᶠ◌
infixl 60 ◌-ᶠ◌
infixl 70 ◌×ᶠ◌
pub record Fraction : Type 0 where
  pub top : ℕ
  pub under : ℕ
  pub above_zero : 0 < under

abbrev pub whole : ℕ → Fraction
whole n = record { top = n; under = 1; above_zero = omega arith }

-- m / 10^e
abbrev pub decimal : ℕ → ℕ → Fraction
decimal m e = record { top = m; under = 10 ^ e; above_zero = one-le-pow e 10 (omega arith) }

abbrev pub ◌≤ᶠ◌ : Fraction → Fraction → Type 0
x ≤ᶠ y = x.top * y.under ≤ y.top * x.under

-- fractions of one value
abbrev pub ◌=ᶠ◌ : Fraction → Fraction → Type 0
x =ᶠ y = x.top * y.under ≡ y.top * x.under

abbrev pub ◌+ᶠ◌ : Fraction → Fraction → Fraction
x +ᶠ y = record {
  top = x.top * y.under + y.top * x.under;
  under = x.under * y.under;
  above_zero = mul-pos x.above_zero y.above_zero;
}

-- 0 where the difference would be negative
abbrev pub ◌-ᶠ◌ : Fraction → Fraction → Fraction
x -ᶠ y = record {
  top = x.top * y.under - y.top * x.under;
  under = x.under * y.under;
  above_zero = mul-pos x.above_zero y.above_zero;
}

abbrev pub ◌×ᶠ◌ : Fraction → Fraction → Fraction
x ×ᶠ y = record {
  top = x.top * y.top;
  under = x.under * y.under;
  above_zero = mul-pos x.above_zero y.above_zero;
}
