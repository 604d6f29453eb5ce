-- The arithmetic of nine figures: each exact result has the value of one decimal fraction, or lies beside one.
use Rattle.std.proofs.Common.{◌≡◌, ℕ, ◌+◌, ◌-◌, ◌*◌, ◌^◌, ◌<◌, ◌≤◌, Bool, true, false, sym, refl, ap, ◌∙◌, ap₂, mul-le-mul_right, mul-le-mul_left, mul-lt-mul_of_pos_right, mul-pos, arith, pow-add}
use native.Mathlib.Nat.{mul-sub, pow-le-pow_right}
use Rattle.std.proofs.lemmas.Bool.{le-leb, lt-leb}
use Rattle.scale.specs.Fractions.{◌≤ᶠ◌, ◌=ᶠ◌, ◌+ᶠ◌, ◌-ᶠ◌, ◌×ᶠ◌, decimal, whole}
use Rattle.scale.specs.NineFigures.{worth, nought, unit, floor, ceiling, nine_figures}
use Rattle.scale.specs.Arithmetic.{chance}
use Rattle.scale.specs.declared.nine_figures.Decimal.{Decimal}
use Rattle.network.specs.declared.rating.Rating.{Rating}
use Rattle.scale.specs.FractionOrder.{◌<ᶠ◌, pow-split}
use Rattle.scale.specs.NineForms.{same-decimal, some-figures, shorter, pow-positive}
use Rattle.scale.specs.NineLaws.{unit-down, nought-down, ten-more}
use Rattle.scale.proofs.NineSteps.{floor-is, floor-same, floor-step, floor-worth, ceiling-same, ceiling-step, ceiling-worth}

pub zero-floor : nought ≡ floor (whole 0)
zero-floor = floor-is (whole 0) nought (nought-down (whole 0) (omega arith))

pub one-floor : unit ≡ floor (whole 1)
one-floor = floor-is (whole 1) unit (unit-down (whole 1) (omega arith))

less-times : (m n a c : ℕ) → m * (a * c) - n * a ≡ a * (m * c - n)
less-times m n a c = omega (arith, mul-sub a (m * c) n)

-- m / p less n / q, with the units n / q small, beside the units (10 m - 1) / 10 p
less-close : (m n p q k d : ℕ) → k + 1 ≡ m * 10 → d + n * p ≡ m * q → 10 * (n * p) * p < q * p → 0 < n * p * p → (k * (p * q) ≤ d * (10 * p)) × (d * (10 * p) < (k + 1) * (p * q))
less-close m n p q k d e f lt some =
    let ee = ap (λ t. t * (p * q)) e in let ff = ap (λ t. t * (10 * p)) f in (omega arith, omega arith)

module _ (x : Decimal) (by : Rating) where
  times-same : decimal (x.figures * by.mantissa) (x.exponent + by.exponent) =ᶠ (worth x ×ᶠ chance by)
  times-same =
      let e = ap (λ n. x.figures * by.mantissa * n) (pow-add 10 x.exponent by.exponent) in
      omega arith

  pub times-floor : (m e : ℕ) → m ≡ x.figures * by.mantissa → e ≡ x.exponent + by.exponent → floor (decimal m e) ≡ floor (worth x ×ᶠ chance by)
  times-floor m e p q =
      ap₂ (λ m e. floor (decimal m e)) p q ∙ floor-same (decimal (x.figures * by.mantissa) (x.exponent + by.exponent)) (worth x ×ᶠ chance by) times-same

  pub times-ceiling : (m e : ℕ) → m ≡ x.figures * by.mantissa → e ≡ x.exponent + by.exponent → ceiling (decimal m e) ≡ ceiling (worth x ×ᶠ chance by)
  times-ceiling m e p q =
      ap₂ (λ m e. ceiling (decimal m e)) p q ∙ ceiling-same (decimal (x.figures * by.mantissa) (x.exponent + by.exponent)) (worth x ×ᶠ chance by) times-same

module _ (x y : Decimal) where
  -- a sum with 0, and the sum the other way round
  plus_none : y.figures ≡ 0 → worth x =ᶠ (worth x +ᶠ worth y)
  plus_none e = rw e (omega arith)

  plus_comm : (worth y +ᶠ worth x) =ᶠ (worth x +ᶠ worth y)
  plus_comm = omega arith

  pub plus-none-floor : y.figures ≡ 0 → x ≡ floor (worth x +ᶠ worth y)
  plus-none-floor e = floor-worth x ∙ floor-same (worth x) (worth x +ᶠ worth y) (plus_none e)

  pub plus-comm-floor : floor (worth y +ᶠ worth x) ≡ floor (worth x +ᶠ worth y)
  plus-comm-floor = floor-same (worth y +ᶠ worth x) (worth x +ᶠ worth y) plus_comm

  pub plus-none-ceiling : y.figures ≡ 0 → x ≡ ceiling (worth x +ᶠ worth y)
  plus-none-ceiling e = ceiling-worth x ∙ ceiling-same (worth x) (worth x +ᶠ worth y) (plus_none e)

  pub plus-comm-ceiling : ceiling (worth y +ᶠ worth x) ≡ ceiling (worth x +ᶠ worth y)
  plus-comm-ceiling = ceiling-same (worth y +ᶠ worth x) (worth x +ᶠ worth y) plus_comm

  module _ (h : x.exponent ≤ y.exponent) where
    split : 10 ^ y.exponent ≡ 10 ^ x.exponent * 10 ^ (y.exponent - x.exponent)
    split = pow-split x.exponent y.exponent h

    -- near: the sum is one decimal fraction
    plus-near : decimal (x.figures * 10 ^ (y.exponent - x.exponent) + y.figures) y.exponent =ᶠ (worth x +ᶠ worth y)
    plus-near = rw split (omega arith)

    pub plus-near-floor : floor (decimal (x.figures * 10 ^ (y.exponent - x.exponent) + y.figures) y.exponent) ≡ floor (worth x +ᶠ worth y)
    plus-near-floor = floor-same (decimal (x.figures * 10 ^ (y.exponent - x.exponent) + y.figures) y.exponent) (worth x +ᶠ worth y) plus-near

    pub plus-near-ceiling : ceiling (decimal (x.figures * 10 ^ (y.exponent - x.exponent) + y.figures) y.exponent) ≡ ceiling (worth x +ᶠ worth y)
    plus-near-ceiling = ceiling-same (decimal (x.figures * 10 ^ (y.exponent - x.exponent) + y.figures) y.exponent) (worth x +ᶠ worth y) plus-near

    -- far: ten y ×ᶠ is less than one unit of the last figure of x
    far : 9 < y.exponent - x.exponent → 10 * (y.figures * 10 ^ x.exponent) < 10 ^ y.exponent
    far g =
        let a = 10 ^ x.exponent in
        let c : 10 ^ 10 ≤ 10 ^ (y.exponent - x.exponent) = pow-le-pow_right {n = 10} (omega arith) g in
        let m = mul-le-mul_left a c in
        let n = mul-le-mul_right a y.form.0 in
        let p = pow-positive x.exponent in
        rw split (omega arith)

    pub plus-far-floor : 100000000 ≤ x.figures → 9 < y.exponent - x.exponent → x ≡ floor (worth x +ᶠ worth y)
    plus-far-floor i g =
        let f = mul-lt-mul_of_pos_right (far g) (pow-positive x.exponent) in
        floor-worth x ∙ floor-step (worth x +ᶠ worth y) x.figures x.exponent i (omega arith) (omega arith)

    pub plus-far-ceiling : 100000000 ≤ x.figures → 0 < y.figures → 9 < y.exponent - x.exponent → ceiling (decimal (x.figures + 1) x.exponent) ≡ ceiling (worth x +ᶠ worth y)
    plus-far-ceiling i j g =
        let a = pow-positive x.exponent in
        let f = mul-lt-mul_of_pos_right (far g) a in
        let some = mul-pos (mul-pos j a) a in
        let s : x.figures + 1 - 1 ≡ x.figures = omega arith in
        ceiling-step (worth x +ᶠ worth y) (x.figures + 1) x.exponent (omega arith) (rw s (omega arith)) (omega arith)

    -- near: the difference is one decimal fraction
    less-near : decimal (x.figures * 10 ^ (y.exponent - x.exponent) - y.figures) y.exponent =ᶠ (worth x -ᶠ worth y)
    less-near =
        let a = 10 ^ x.exponent in
        let c = 10 ^ (y.exponent - x.exponent) in
        let d : x.figures * (a * c) - y.figures * a ≡ a * (x.figures * c - y.figures) = less-times x.figures y.figures a c in
        rw (split, d) (omega arith)

    pub less-near-floor : floor (decimal (x.figures * 10 ^ (y.exponent - x.exponent) - y.figures) y.exponent) ≡ floor (worth x -ᶠ worth y)
    less-near-floor = floor-same (decimal (x.figures * 10 ^ (y.exponent - x.exponent) - y.figures) y.exponent) (worth x -ᶠ worth y) less-near

    pub less-far-floor : 100000000 ≤ x.figures → 0 < y.figures → 9 < y.exponent - x.exponent → floor (decimal (x.figures * 10 - 1) (x.exponent + 1)) ≡ floor (worth x -ᶠ worth y)
    less-far-floor i j g =
        let a = pow-positive x.exponent in
        let q = 10 ^ y.exponent in
        let big = mul-le-mul_right q i in
        let close =
        less-close x.figures y.figures (10 ^ x.exponent) q (x.figures * 10 - 1) (x.figures * q - y.figures * 10 ^ x.exponent) (omega arith) (omega (arith, far g))
        (mul-lt-mul_of_pos_right (far g) a) (mul-pos (mul-pos j a) a) in
        let t = ten-more x.exponent in
        floor-step (worth x -ᶠ worth y) (x.figures * 10 - 1) (x.exponent + 1) (omega arith) (rw t close.0) (rw t close.1)

  less_none : x.figures * 10 ^ y.exponent ≤ y.figures * 10 ^ x.exponent → nought ≡ floor (worth x -ᶠ worth y)
  less_none h =
      let q = worth x -ᶠ worth y in
      let none : q.top ≡ 0 = omega arith in
      let p = q.above_zero in
      floor-is q nought (nought-down q (rw none (omega arith)))

  pub less-nothing-floor : y.figures ≡ 0 → x ≡ floor (worth x -ᶠ worth y)
  less-nothing-floor e =
      let d : x.figures * 10 ^ y.exponent - y.figures * 10 ^ x.exponent ≡ x.figures * 10 ^ y.exponent = rw e (omega arith) in
      floor-worth x ∙ floor-same (worth x) (worth x -ᶠ worth y) (rw d (omega arith))

  pub nothing-less-floor : x.figures ≡ 0 → x ≡ floor (worth x -ᶠ worth y)
  nothing-less-floor e = same-decimal x nought e (x.form.4 (omega arith)).1 ∙ less_none (rw e (omega arith))

  pub smaller-less-floor : 0 < y.figures → y.exponent < x.exponent → nought ≡ floor (worth x -ᶠ worth y)
  smaller-less-floor i lt =
      let s = shorter x.figures x.exponent y.figures y.exponent x.form.0 (some-figures y i) lt in less_none (omega arith)

  -- the order
  -- a test that tells the order
  order_is : (b : Bool) → (b ≡ true → worth x ≤ᶠ worth y) → (b ≡ false → worth y <ᶠ worth x) → b ≡ nine_figures.at_most x y
  order_is true h k = sym (le-leb _ _ (h refl))
  order_is false h k = sym (lt-leb _ _ (k refl))

  pub same-exponent : (b : Bool) → (b ≡ true → x.figures ≤ y.figures) → (b ≡ false → y.figures < x.figures) → x.exponent ≡ y.exponent → b ≡ nine_figures.at_most x y
  same-exponent b h k e =
      let p = pow-positive y.exponent in
      order_is b (λ t. rw e (mul-le-mul_right (10 ^ y.exponent) (h t))) (λ t. rw e (mul-lt-mul_of_pos_right (k t) p))

  pub other-exponent : (b : Bool) → (b ≡ true → y.exponent < x.exponent) → (b ≡ false → x.exponent < y.exponent) → 0 < x.figures → 0 < y.figures → b ≡ nine_figures.at_most x y
  other-exponent b h k i j =
      order_is b
      (λ t. let s = shorter x.figures x.exponent y.figures y.exponent x.form.0 (some-figures y j) (h t) in omega arith)
      (λ t. shorter y.figures y.exponent x.figures x.exponent y.form.0 (some-figures x i) (k t))
