-- The steps by which m / 10^e is brought to nine figures.
use Rattle.std.proofs.Common.{◌≡◌, ℕ, ◌+◌, ◌-◌, ◌*◌, ◌^◌, ◌<◌, ◌≤◌, ◌⊎◌, refl, ap, ◌∙◌, mul-le-mul_right, mul-lt-mul_of_pos_right, pow-add, arith, inl, inr}
use native.Mathlib.Nat.{pow-le-pow_right}
use Rattle.scale.specs.Fractions.{Fraction, ◌≤ᶠ◌, ◌=ᶠ◌, decimal}
use Rattle.scale.specs.NineFigures.{worth, nought, unit, floor, ceiling}
use Rattle.scale.specs.declared.nine_figures.Decimal.{Decimal}
use Rattle.scale.specs.FractionOrder.{◌<ᶠ◌, at-most-below, below-at-most}
use Rattle.scale.specs.NineForms.{none_between, one_form, pow-positive, ten-pow, shorter}
use Rattle.scale.specs.NineLaws.{RoundedDown, RoundedUp, rounds, none_above, ten-more, unit-down, nought-down, unit-up, nought-up, least-up}
use Rattle.scale.specs.Roundings.{down_is, down_moves, down_same, down_value, up_is, up_moves, up_same, up_value}

pub floor-is : (q : Fraction) (x : Decimal) → RoundedDown q x → x ≡ floor q
floor-is q x d = down_is rounds one_form q x d

pub ceiling-is : (q : Fraction) (x : Decimal) → RoundedUp q x → x ≡ ceiling q
ceiling-is q x u = up_is rounds one_form q x u

pub floor-same : (p q : Fraction) → p =ᶠ q → floor p ≡ floor q
floor-same = down_same rounds one_form

pub ceiling-same : (p q : Fraction) → p =ᶠ q → ceiling p ≡ ceiling q
ceiling-same = up_same rounds one_form

-- from m / 10^e on, and below (m + 1) / 10^e, all is rounded down as m / 10^e is
pub floor-step : (q : Fraction) (m e : ℕ) → 100000000 ≤ m → decimal m e ≤ᶠ q → q <ᶠ decimal (m + 1) e → floor (decimal m e) ≡ floor q
floor-step q m e h i lt =
    down_moves rounds one_form (decimal m e) q i
    (λ y k. none_above y m e h (at-most-below (worth y) q (decimal (m + 1) e) k lt))

-- above (m - 1) / 10^e, and up to m / 10^e, all is rounded up as m / 10^e is
pub ceiling-step : (q : Fraction) (m e : ℕ) → 100000000 < m → decimal (m - 1) e <ᶠ q → q ≤ᶠ decimal m e → ceiling (decimal m e) ≡ ceiling q
ceiling-step q m e h lt i =
    let s : (m - 1) + 1 ≡ m = omega arith in
    up_moves rounds one_form (decimal m e) q i
    (λ y k. rw s at (none_between y (m - 1) e (omega arith) (below-at-most (decimal (m - 1) e) q (worth y) lt k)))

-- nine figures, and one more in the last place where something was cut off
pub ceiling-cut : (q : Fraction) (m e u : ℕ) → 100000000 ≤ m → q <ᶠ decimal (m + 1) e → (u ≡ m) × (q =ᶠ decimal m e) ⊎ (u ≡ m + 1) × (decimal m e <ᶠ q) → ceiling (decimal u e) ≡ ceiling q
ceiling-cut q m e u h i =
    elim [
      | inl k ↦ rw k.0 (ceiling-same (decimal m e) q (omega (arith, k.1)))
      | inr k ↦ rw k.0 (ceiling-step q (m + 1) e (omega arith) (let n : m + 1 - 1 ≡ m = omega arith in rw n k.1) (omega (arith, i)))
    ]

-- a number with more figures, and with fewer
module _ (m e k : ℕ) where
  pub grown-is : decimal m e =ᶠ decimal (m * 10 ^ k) (e + k)
  grown-is = let s = pow-add 10 e k in rw s (omega arith)

  module _ (h : k ≤ e) where
    at-places : 10 ^ e ≡ 10 ^ (e - k) * 10 ^ k
    at-places = let s : e ≡ (e - k) + k = omega arith in ap (λ n. 10 ^ n) s ∙ pow-add 10 (e - k) k

    pub cut-below : (d : ℕ) → d * 10 ^ k ≤ m → decimal d (e - k) ≤ᶠ decimal m e
    cut-below d i = let p = mul-le-mul_right (10 ^ (e - k)) i in rw at-places (omega arith)

    pub cut-above : (d : ℕ) → m < d * 10 ^ k → decimal m e <ᶠ decimal d (e - k)
    cut-above d i = let p = mul-lt-mul_of_pos_right i (pow-positive (e - k)) in rw at-places (omega arith)

    pub cut-before : (d : ℕ) → d * 10 ^ k < m → decimal d (e - k) <ᶠ decimal m e
    cut-before d i = let p = mul-lt-mul_of_pos_right i (pow-positive (e - k)) in rw at-places (omega arith)

    pub cut-same : (d : ℕ) → d * 10 ^ k ≡ m → decimal m e =ᶠ decimal d (e - k)
    cut-same d i = let p = ap (λ n. n * 10 ^ (e - k)) i in rw at-places (omega arith)

-- 10^9 in the last place is one figure more
pub ceiling-carry : (x : Decimal) (m e : ℕ) → m ≡ 1000000000 → 0 < e → x.figures ≡ 100000000 → x.exponent ≡ e - 1 → x ≡ ceiling (decimal m e)
ceiling-carry x m e h i p q =
    let t : 10 ^ e ≡ 10 * 10 ^ (e - 1) = let s : e ≡ (e - 1) + 1 = omega arith in ap (λ k. 10 ^ k) s ∙ ten-more (e - 1) in
    up_value rounds one_form x ∙ ceiling-same (worth x) (decimal m e) (rw (p, q, h, t) (omega arith))

module _ (m e : ℕ) where
  pub from-first : (f : ℕ) → 10 ^ f ≤ m → e ≤ f → 10 ^ e ≤ m
  from-first f h i = let p : 10 ^ e ≤ 10 ^ f = pow-le-pow_right {n = 10} (omega arith) i in omega arith

  pub floor-unit : 10 ^ e ≤ m → unit ≡ floor (decimal m e)
  floor-unit h = floor-is (decimal m e) unit (unit-down (decimal m e) (omega arith))

  pub ceiling-unit : 10 ^ e ≤ m → unit ≡ ceiling (decimal m e)
  ceiling-unit h = ceiling-is (decimal m e) unit (unit-up (decimal m e) (let z = pow-positive e in omega arith))

  pub floor-nought : m ≤ 999999999 → 60 < e → nought ≡ floor (decimal m e)
  floor-nought h i = floor-is (decimal m e) nought (nought-down (decimal m e) (shorter m e 100000000 60 h (omega arith) i))

  pub ceiling-least : (x : Decimal) → x.figures ≡ 100000000 → x.exponent ≡ 60 → 0 < m → m ≤ 1000000000 → 60 < e → x ≡ ceiling (decimal m e)
  ceiling-least x p q h i j =
      let t = ten-pow 60 e j in
      let s = mul-le-mul_right (10 ^ 60) i in
      ceiling-is (decimal m e) x (least-up (decimal m e) x p q h (rw (p, q) (omega (arith, s, t))))

pub floor-none : (e : ℕ) → nought ≡ floor (decimal 0 e)
floor-none e = let p = (decimal 0 e).above_zero in floor-is (decimal 0 e) nought (nought-down (decimal 0 e) (omega arith))

pub ceiling-none : (e : ℕ) → nought ≡ ceiling (decimal 0 e)
ceiling-none e = ceiling-is (decimal 0 e) nought (nought-up (decimal 0 e) refl)

pub floor-worth : (x : Decimal) → x ≡ floor (worth x)
floor-worth = down_value rounds one_form

pub ceiling-worth : (x : Decimal) → x ≡ ceiling (worth x)
ceiling-worth = up_value rounds one_form
