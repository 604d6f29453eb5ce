-- The billionths keep the laws of a scale.
use Rattle.std.specs.Prelude.{◌≡◌, ℕ, ◌+◌, ◌-◌, ◌*◌, ◌/◌, ◌^◌, ◌<◌, ◌≤◌, min}
use Rattle.std.proofs.Common.{sym, ap, ◌∙◌, ⊎_elim, div-mul-le_self, mul-le-mul_right, arith}
use mathlib.Core.HLevel.{is_prop→PathP}
use Rattle.std.proofs.Math.Bridge.{le_prop}
use Rattle.std.proofs.Math.Nat.{div-eq_of_lt-le, div-le_of_le-mul, pow-le-pow_right}
use Rattle.std.proofs.lemmas.Nat.{le-div, mul-le}
use Rattle.std.proofs.lemmas.Bool.{cases_lt}
use Rattle.scale.specs.Billionths.{worth, floor, ceiling, billionth_rounding, billionths}
use Rattle.scale.specs.Quotients.{ceil_div}
use Rattle.scale.specs.Fractions.{Fraction, ◌≤ᶠ◌, whole, ◌+ᶠ◌, ◌-ᶠ◌, ◌×ᶠ◌}
use Rattle.scale.specs.Arithmetic.{Rounded, OneNumberForEachValue, chance}
use Rattle.scale.specs.declared.billionths.Billionth.{Billionth}
use Rattle.network.specs.declared.rating.Rating.{Rating}
use Rattle.scale.specs.QuotientsLemmas.{floor-next, ceil-above, ceil-before, ceil-least, ceil-is}
use Rattle.scale.specs.Roundings.{Rounds, rounded_from}

pub same_units : (x y : Billionth) → x.units ≡ y.units → x ≡ y
same_units x y e j = record {
  units = e j;
  to_one = is_prop→PathP (λ k. e k ≤ 1000000000) (λ k. le_prop) x.to_one y.to_one j;
}

min-below : (n m d k : ℕ) → n * d ≤ k → min n m * d ≤ k
min-below n m d k h = let p : min n m ≤ n = omega arith in let q = mul-le-mul_right d p in omega arith

min-above : (n m d k : ℕ) → k ≤ n * d → k ≤ m * d → k ≤ min n m * d
min-above n m d k h i =
    ⊎_elim (λ z. let e : min n m ≡ n = omega arith in rw e h) (λ z. let e : min n m ≡ m = omega arith in rw e i) (cases_lt n m)

to-one : (x : Billionth) → worth x ≤ᶠ whole 1
to-one x = omega (arith, x.to_one)

reached : (q : Fraction) → whole 1 ≤ᶠ q → 1000000000 ≤ ceil_div (q.top * 1000000000) q.under
reached q h = let p = le-div 1000000000 (q.top * 1000000000) q.under q.above_zero (omega arith) in omega arith

rounds : Rounds billionth_rounding
rounds = record {
  to_one = to-one;
  downward = λ q. record {
    not_above = min-below _ _ _ _ (div-mul-le_self (q.top * 1000000000) q.under);
    largest = λ x h. let p = le-div x.units (q.top * 1000000000) q.under q.above_zero h in omega (arith, x.to_one);
  };
  upward = λ q. record {
    not_below = λ h. min-above _ _ _ _ (ceil-above (q.top * 1000000000) q.under q.above_zero) (omega arith);
    smallest = λ x h. let p = ceil-least (q.top * 1000000000) q.under q.above_zero x.units h in omega arith;
    held_at_one = λ h. omega (arith, reached q h);
  };
}

pub rounded : Rounded billionths
rounded = rounded_from rounds

-- equal values are one number
pub one_number : OneNumberForEachValue billionths
one_number x y e = same_units x y (omega arith)

is-floor : (x : Billionth) (q : Fraction) (n : ℕ) → n * q.under ≤ q.top * 1000000000 → q.top * 1000000000 < n * q.under + q.under → x.units ≡ min n 1000000000 → x ≡ floor q
is-floor x q n h i e =
    same_units x (floor q) (e ∙ ap (λ w. min w 1000000000) (sym (div-eq_of_lt-le q.under h (omega arith))))

is-ceiling : (x : Billionth) (q : Fraction) (n : ℕ) → q.top * 1000000000 ≤ n * q.under → n * q.under < q.top * 1000000000 + q.under → x.units ≡ min n 1000000000 → x ≡ ceiling q
is-ceiling x q n h i e =
    same_units x (ceiling q) (e ∙ ap (λ w. min w 1000000000) (sym (ceil-is (q.top * 1000000000) q.under q.above_zero n h i)))

module _ (x y r : Billionth) where
  pub sum-floor : r.units ≡ min (x.units + y.units) 1000000000 → r ≡ floor (worth x +ᶠ worth y)
  sum-floor e = is-floor r (worth x +ᶠ worth y) (x.units + y.units) (omega arith) (omega arith) e

  pub sum-ceiling : r.units ≡ min (x.units + y.units) 1000000000 → r ≡ ceiling (worth x +ᶠ worth y)
  sum-ceiling e = is-ceiling r (worth x +ᶠ worth y) (x.units + y.units) (omega arith) (omega arith) e

  pub less-floor : r.units ≡ x.units - y.units → r ≡ floor (worth x -ᶠ worth y)
  less-floor e = is-floor r (worth x -ᶠ worth y) (x.units - y.units) (omega arith) (omega arith) (omega (arith, x.to_one))

module _ (x : Billionth) (by : Rating) where
  pub product-to-one : x.units * by.mantissa ≤ 1000000000 * 10 ^ by.exponent
  product-to-one =
      let p = mul-le x.units by.mantissa 1000000000 1000000000 x.to_one by.small in
      let q : 1000000000 ≤ 10 ^ by.exponent = pow-le-pow_right {n = 10} (omega arith) by.least in
      omega arith

  pub floor-to-one : x.units * by.mantissa / 10 ^ by.exponent ≤ 1000000000
  floor-to-one = div-le_of_le-mul (10 ^ by.exponent) (omega (arith, product-to-one))

  pub ceiling-to-one : ceil_div (x.units * by.mantissa) (10 ^ by.exponent) ≤ 1000000000
  ceiling-to-one = ceil-least (x.units * by.mantissa) (10 ^ by.exponent) (chance by).above_zero 1000000000 product-to-one

  pub times-floor : (r : Billionth) → r.units ≡ x.units * by.mantissa / 10 ^ by.exponent → r ≡ floor (worth x ×ᶠ chance by)
  times-floor r e =
      let p = div-mul-le_self (x.units * by.mantissa) (10 ^ by.exponent) in
      let q = floor-next (x.units * by.mantissa) (10 ^ by.exponent) (chance by).above_zero in
      is-floor r (worth x ×ᶠ chance by) (x.units * by.mantissa / 10 ^ by.exponent) (omega arith) (omega arith) (omega (arith, floor-to-one))

  pub times-ceiling : (r : Billionth) → r.units ≡ ceil_div (x.units * by.mantissa) (10 ^ by.exponent) → r ≡ ceiling (worth x ×ᶠ chance by)
  times-ceiling r e =
      let n = ceil_div (x.units * by.mantissa) (10 ^ by.exponent) in
      let p = ceil-above (x.units * by.mantissa) (10 ^ by.exponent) (chance by).above_zero in
      let q = ceil-before (x.units * by.mantissa) (10 ^ by.exponent) (chance by).above_zero in
      is-ceiling r (worth x ×ᶠ chance by) n (omega arith) (omega arith) (omega (arith, ceiling-to-one))
