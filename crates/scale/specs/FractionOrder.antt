-- The order of fractions.
use Rattle.std.specs.Prelude.{◌≡◌, ℕ, ◌+◌, ◌-◌, ◌*◌, ◌^◌, ◌<◌, ◌≤◌}
use Rattle.std.proofs.Common.{ap, ◌∙◌, mul-le-mul_right, mul-lt-mul_of_pos_right, le_of_mul-le-mul_right, lt_of_mul-lt-mul_right, arith, pow-add}
use Rattle.scale.specs.Fractions.{Fraction, ◌≤ᶠ◌}

infix 50 ◌<ᶠ◌
abbrev pub ◌<ᶠ◌ : Fraction → Fraction → Type 0
x <ᶠ y = x.top * y.under < y.top * x.under

module _ (a b c : Fraction) where
  pub at-most-trans : a ≤ᶠ b → b ≤ᶠ c → a ≤ᶠ c
  at-most-trans h i =
      let p = mul-le-mul_right c.under h in
      let q = mul-le-mul_right a.under i in
      le_of_mul-le-mul_right {k = b.under} (omega arith) b.above_zero

  pub at-most-below : a ≤ᶠ b → b <ᶠ c → a <ᶠ c
  at-most-below h i =
      let p = mul-le-mul_right c.under h in
      let q = mul-lt-mul_of_pos_right i a.above_zero in
      lt_of_mul-lt-mul_right b.under (omega arith)

  pub below-at-most : a <ᶠ b → b ≤ᶠ c → a <ᶠ c
  below-at-most h i =
      let p = mul-lt-mul_of_pos_right h c.above_zero in
      let q = mul-le-mul_right a.under i in
      lt_of_mul-lt-mul_right b.under (omega arith)

pub pow-split : (e f : ℕ) → e ≤ f → 10 ^ f ≡ 10 ^ e * 10 ^ (f - e)
pow-split e f h = let s : f ≡ e + (f - e) = omega arith in ap (λ k. 10 ^ k) s ∙ pow-add 10 e (f - e)
