-- The numbers of nine figures: equal values are one number, and there is none between neighbours.
use Rattle.std.specs.Prelude.{◌≡◌, ℕ, ◌+◌, ◌-◌, ◌*◌, ◌^◌, ◌<◌, ◌≤◌}
use Rattle.std.proofs.Common.{ap, ⊎_elim, le_antisymm, le_of_mul-le-mul_right, mul-le-mul, mul-le-mul_right, mul-le-mul_left, lt_of_mul-lt-mul_right, arith}
use mathlib.Core.HLevel.{is_prop→PathP, →_prop, ×_prop}
use Rattle.std.proofs.Math.Bridge.{le_prop}
use Rattle.std.proofs.Math.Nat.{ℕ_set, one-le-pow, pow-le-pow_right}
use Rattle.std.proofs.lemmas.Bool.{cases_lt, cases_order}
use Rattle.scale.specs.Form.{Form}
use Rattle.scale.specs.Fractions.{◌≤ᶠ◌, decimal, whole}
use Rattle.scale.specs.Arithmetic.{OneNumberForEachValue}
use Rattle.scale.specs.NineFigures.{worth, nine_figures}
use Rattle.scale.specs.declared.nine_figures.Decimal.{Decimal}
use Rattle.scale.specs.FractionOrder.{◌<ᶠ◌, pow-split}

form-prop : (m e : ℕ) → IsProp (Form m e)
form-prop m e u v j = (
  le_prop u.0 v.0 j,
  le_prop u.1 v.1 j,
  le_prop u.2 v.2 j,
  →_prop (ℕ_set _ _) u.3 v.3 j,
  →_prop (×_prop (ℕ_set _ _) (ℕ_set _ _)) u.4 v.4 j,
)

pub same-decimal : (x y : Decimal) → x.figures ≡ y.figures → x.exponent ≡ y.exponent → x ≡ y
same-decimal x y p q j = record {
  figures = p j;
  exponent = q j;
  form = is_prop→PathP (λ k. Form (p k) (q k)) (λ k. form-prop (p k) (q k)) x.form y.form j;
}

pub pow-positive : (e : ℕ) → 1 ≤ 10 ^ e
pow-positive e = one-le-pow e 10 (omega arith)

pub ten-pow : (e f : ℕ) → e < f → 10 * 10 ^ e ≤ 10 ^ f
ten-pow e f h =
    let s = pow-split e f (omega arith) in
    let t : 10 ≤ 10 ^ (f - e) = pow-le-pow_right {n = 10} (omega arith) {i = 1} {j = f - e} (omega arith) in
    let m = mul-le-mul_left (10 ^ e) t in
    omega arith

-- at most nine figures with a larger exponent are below nine with a smaller one
pub shorter : (n f m e : ℕ) → n ≤ 999999999 → 100000000 ≤ m → e < f → n * 10 ^ e < m * 10 ^ f
shorter n f m e h i lt =
    let t = ten-pow e f lt in
    let p = mul-le-mul_left m t in
    let q = mul-le-mul_right (10 ^ e) h in
    let r = mul-le-mul_right (10 ^ e) i in
    let s = pow-positive e in
    omega arith

-- no number lies between m / 10^e and (m + 1) / 10^e where m has nine figures or more
pub none_between : (y : Decimal) (m e : ℕ) → 100000000 ≤ m → decimal m e <ᶠ worth y → decimal (m + 1) e ≤ᶠ worth y
none_between y m e h lt =
    ⊎_elim
    (λ (z : e < y.exponent). absurd (let s = shorter y.figures y.exponent m e y.form.0 h z in omega arith))
    (λ (z : y.exponent ≤ e).
    let s = pow-split y.exponent e z in
    let b = 10 ^ y.exponent in
    let c = 10 ^ (e - y.exponent) in
    let r = rw s at lt in
    let l : m * b < (y.figures * c) * b = omega arith in
    let k = mul-le-mul_right b (lt_of_mul-lt-mul_right b l) in
    rw s (omega arith))
    (cases_lt e y.exponent)

apart : (x y : Decimal) → x.exponent < y.exponent → worth x ≤ᶠ worth y → worth y ≤ᶠ worth x → ⊥
apart x y lt h i =
    let p = pow-positive x.exponent in
    ⊎_elim
    (λ (z : x.figures < 100000000).
    let none = x.form.4 z in
    let k : y.figures * 10 ^ x.exponent ≤ 0 = omega (arith, ap (λ n. n * 10 ^ y.exponent) none.0) in
    let l = mul-le-mul_left y.figures p in
    let other = y.form.4 (omega arith) in
    omega arith)
    (λ (z : 100000000 ≤ x.figures). let s = shorter y.figures y.exponent x.figures x.exponent y.form.0 z lt in omega arith)
    (cases_lt x.figures 100000000)

between : (x y : Decimal) → worth x ≤ᶠ worth y → worth y ≤ᶠ worth x → x ≡ y
between x y h i =
    ⊎_elim
    (λ (e : x.exponent ≡ y.exponent).
    let p = pow-positive y.exponent in
    let h' = rw e at h in
    let i' = rw e at i in
    same-decimal x y (le_antisymm (le_of_mul-le-mul_right {k = 10 ^ y.exponent} h' p) (le_of_mul-le-mul_right {k = 10 ^ y.exponent} i' p)) e)
    (⊎_elim (λ z. absurd (apart x y z h i)) (λ z. absurd (apart y x z i h)))
    (cases_order x.exponent y.exponent)

-- equal values are one number
pub one_form : OneNumberForEachValue nine_figures
one_form x y e = between x y (omega arith) (omega arith)

pub some-figures : (y : Decimal) → 0 < y.figures → 100000000 ≤ y.figures
some-figures y h =
    ⊎_elim (λ z. absurd (let e = (y.form.4 z).0 in omega arith)) (λ z. z) (cases_lt y.figures 100000000)

-- a number above 0 is at least 10^8 / 10^60
pub least-number : (y : Decimal) → 0 < y.figures → decimal 100000000 60 ≤ᶠ worth y
least-number y h =
    let p : 10 ^ y.exponent ≤ 10 ^ 60 = pow-le-pow_right {n = 10} (omega arith) y.form.2 in
    mul-le-mul (some-figures y h) p

pub to_one : (y : Decimal) → worth y ≤ᶠ whole 1
to_one y =
    ⊎_elim
    (λ (z : y.exponent < 9). let e : y.exponent ≡ 8 = omega (arith, y.form.1) in let m = y.form.3 e in rw (e, m) (omega arith))
    (λ (z : 9 ≤ y.exponent). let p : 10 ^ 9 ≤ 10 ^ y.exponent = pow-le-pow_right {n = 10} (omega arith) z in omega (arith, y.form.0))
    (cases_lt y.exponent 9)
