-- The nine figures keep the laws of a scale.
use Rattle.std.specs.Prelude.{◌≡◌, ℕ, zero, suc, ◌+◌, ◌-◌, ◌*◌, ◌/◌, ◌^◌, ◌<◌, ◌≤◌, ◌==◌, ◌≢◌, nat_le, nat_lt}
use Rattle.std.proofs.Common.{ap, subst, ⊎_elim, div-mul-le_self, mul-le-mul_right, mul-le-mul_left, add-one, arith}
use Rattle.std.proofs.Math.Nat.{pow-succ'}
use Rattle.std.proofs.Math.Arith.{le-zero}
use Rattle.std.proofs.lemmas.Nat.{le-div}
use Rattle.std.proofs.lemmas.Bool.{cases_lt, cond_both, leb-true, leb-false, ltb-true, ltb-false, eqb-true, eqb-false}
use Rattle.scale.specs.Quotients.{ceil_div}
use Rattle.scale.specs.Fractions.{Fraction, ◌≤ᶠ◌, decimal, whole}
use Rattle.scale.specs.NineFigures.{worth, nought, unit, nine, fit, floor, ceiling, nine_rounding, nine_figures}
use Rattle.scale.specs.Arithmetic.{Down, Up, Rounded}
use Rattle.scale.specs.declared.nine_figures.Decimal.{Decimal}
use Rattle.scale.specs.FractionOrder.{◌<ᶠ◌, at-most-trans, at-most-below, below-at-most}
use Rattle.scale.specs.NineForms.{none_between, least-number, to_one}
use Rattle.scale.specs.QuotientsLemmas.{floor-next, ceil-above, ceil-before, ceil-least}
use Rattle.scale.specs.Roundings.{Rounds, rounded_from}

-- what `fit` finds
pub record Fitted (m : ℕ → ℕ) (n k : ℕ) : Type 0 where
  pub within : k ≤ n
  pub fits : 0 < k → m (8 + k) ≤ 999999999
  pub next : k < n → 999999999 < m (8 + k + 1)

pub fitted : (m : ℕ → ℕ) (n : ℕ) → Fitted m n (fit m n)
unfolding fit
fitted m zero = record { within = omega arith; fits = λ h. absurd (omega arith); next = λ h. absurd (omega arith) }
fitted m (suc n) =
    cond_both (nat_le (m (8 + suc n)) 999999999) (suc n) (fit m n) (Fitted m (suc n))
    (λ t. record { within = omega arith; fits = λ h. leb-true (m (8 + suc n)) 999999999 t; next = λ h. absurd (omega arith) })
    (λ t.
    let before = fitted m n in
    record {
      within = omega (arith, before.within);
      fits = before.fits;
      next = λ h.
          ⊎_elim (λ (z : fit m n < n). before.next z)
          (λ (z : n ≤ fit m n).
          let e : 8 + suc n ≡ 8 + fit m n + 1 = omega (arith, before.within) in
          subst (λ k. 999999999 < m k) e (leb-false (m (8 + suc n)) 999999999 t))
          (cases_lt (fit m n) n);
    })

abbrev pub RoundedDown : Fraction → Decimal → Type 0
RoundedDown = Down worth

abbrev pub RoundedUp : Fraction → Decimal → Type 0
RoundedUp = Up worth

pub ten-more : (e : ℕ) → 10 ^ (e + 1) ≡ 10 * 10 ^ e
ten-more e = rw add-one (pow-succ' 10 e)

-- no number above m / 10^e is below (m + 1) / 10^e
pub none_above : (y : Decimal) (m e : ℕ) → 100000000 ≤ m → worth y <ᶠ decimal (m + 1) e → worth y ≤ᶠ decimal m e
none_above y m e h lt =
    ⊎_elim (λ z. absurd (let n = none_between y m e h z in omega arith)) (λ z. z) (cases_lt (m * 10 ^ y.exponent) (y.figures * 10 ^ e))

module _ (q : Fraction) where
  pub unit-down : whole 1 ≤ᶠ q → RoundedDown q unit
  unit-down h = record { not_above = omega arith; largest = λ y i. omega (arith, to_one y) }

  pub nought-down : q <ᶠ decimal 100000000 60 → RoundedDown q nought
  nought-down h = record {
    not_above = omega arith;
    largest = λ y i.
        ⊎_elim
        (λ (z : 0 < y.figures).
        absurd (let l = below-at-most q (decimal 100000000 60) (worth y) h (least-number y z) in omega arith))
        (λ (z : y.figures ≤ 0). omega arith)
        (cases_lt 0 y.figures);
  }

  nine-down : (x : Decimal) → 100000000 ≤ x.figures → worth x ≤ᶠ q → q <ᶠ decimal (x.figures + 1) x.exponent → RoundedDown q x
  nine-down x h i lt = record {
    not_above = i;
    largest = λ y k. none_above y x.figures x.exponent h (at-most-below (worth y) q (decimal (x.figures + 1) x.exponent) k lt);
  }

  next-floor : (e : ℕ) → 999999999 < q.top * 10 ^ (e + 1) / q.under → 100000000 * q.under ≤ q.top * 10 ^ e
  next-floor e h =
      let p = mul-le-mul_right q.under h in
      let d = div-mul-le_self (q.top * 10 ^ (e + 1)) q.under in
      let t = ap (λ n. q.top * n) (ten-more e) in
      omega arith

  module _ (k : ℕ) (f : Fitted (λ e. q.top * 10 ^ e / q.under) 52 k) where
    floor-unit : 8 + k ≤ 8 → RoundedDown q unit
    floor-unit z =
        let e : 8 + k ≡ 8 = omega arith in
        let n = rw e at (next-floor (8 + k) (f.next (omega arith))) in
        unit-down (omega arith)

    floor-nought : q.top * 10 ^ (8 + k) / q.under < 100000000 → RoundedDown q nought
    floor-nought z =
        let last : k ≡ 52 =
        ⊎_elim
        (λ (w : k < 52).
        absurd (let d = le-div 100000000 (q.top * 10 ^ (8 + k)) q.under q.above_zero (next-floor (8 + k) (f.next w)) in omega arith))
        (λ (w : 52 ≤ k). omega (arith, f.within))
        (cases_lt k 52) in
        let n = floor-next (q.top * 10 ^ (8 + k)) q.under q.above_zero in
        let p = mul-le-mul_right q.under z in
        let lt : q.top * 10 ^ (8 + k) < 100000000 * q.under = omega arith in
        nought-down (rw last at lt)

    floor-nine : 8 < 8 + k → 100000000 ≤ q.top * 10 ^ (8 + k) / q.under → RoundedDown q (nine (q.top * 10 ^ (8 + k) / q.under) (8 + k))
    floor-nine z h =
        let m = q.top * 10 ^ (8 + k) / q.under in
        let x = nine m (8 + k) in
        let most = f.fits (omega arith) in
        let em : x.figures ≡ m = omega arith in
        let ee : x.exponent ≡ 8 + k = omega (arith, f.within) in
        let d = div-mul-le_self (q.top * 10 ^ (8 + k)) q.under in
        let n = floor-next (q.top * 10 ^ (8 + k)) q.under q.above_zero in
        nine-down x (omega arith) (rw (em, ee) d) (rw (em, ee) (omega arith))

  pub floor-down : RoundedDown q (floor q)
  unfolding floor
  floor-down =
      let m : ℕ → ℕ = λ e. q.top * 10 ^ e / q.under in
      let k : ℕ = fit m 52 in
      let f = fitted m 52 in
      cond_both (nat_le (8 + k) 8) unit _ (RoundedDown q) (λ t. floor-unit k f (leb-true (8 + k) 8 t))
      (λ t.
      cond_both (nat_lt (m (8 + k)) 100000000) nought _ (RoundedDown q) (λ u. floor-nought k f (ltb-true (m (8 + k)) 100000000 u))
      (λ u. floor-nine k f (leb-false (8 + k) 8 t) (ltb-false (m (8 + k)) 100000000 u)))

  -- a number not below q, and not above any number that is not below q
  pub up_from : (x : Decimal) → q ≤ᶠ worth x → ((y : Decimal) → q ≤ᶠ worth y → worth x ≤ᶠ worth y) → RoundedUp q x
  up_from x h i = record { not_below = λ _. h; smallest = i; held_at_one = λ k. omega (arith, to_one x, at-most-trans (whole 1) q (worth x) k h) }

  pub unit-up : decimal 999999999 9 <ᶠ q → RoundedUp q unit
  unit-up h = record {
    not_below = λ i. omega arith;
    smallest = λ y i.
        let n = none_between y 999999999 9 (omega arith) (below-at-most (decimal 999999999 9) q (worth y) h i) in omega arith;
    held_at_one = λ i. omega arith;
  }

  pub nought-up : q.top ≡ 0 → RoundedUp q nought
  nought-up h = up_from nought (rw h (omega arith)) (λ y i. omega arith)

  pub nine-up : (x : Decimal) (m : ℕ) → x.figures ≡ m + 1 → 100000000 ≤ m → decimal m x.exponent <ᶠ q → q ≤ᶠ worth x → RoundedUp q x
  nine-up x m e h lt i =
      up_from x i
      (λ y k. rw e (none_between y m x.exponent h (below-at-most (decimal m x.exponent) q (worth y) lt k)))

  pub least-up : (x : Decimal) → x.figures ≡ 100000000 → x.exponent ≡ 60 → 0 < q.top → q ≤ᶠ worth x → RoundedUp q x
  least-up x m e h i =
      up_from x i
      (λ y k.
      ⊎_elim
      (λ (z : 0 < y.figures). rw (m, e) (least-number y z))
      (λ (z : y.figures ≤ 0).
      absurd
      (let none : y.figures ≡ 0 = omega arith in
      let p = mul-le-mul_left q.top (worth y).above_zero in
      let l = rw none at k in omega arith))
      (cases_lt 0 y.figures))

  ten-up : (x : Decimal) → x.figures ≡ 100000000 → decimal 999999999 (x.exponent + 1) <ᶠ q → q ≤ᶠ worth x → RoundedUp q x
  ten-up x m lt i =
      up_from x i
      (λ y k.
      let n = none_between y 999999999 (x.exponent + 1) (omega arith) (below-at-most (decimal 999999999 (x.exponent + 1)) q (worth y) lt k) in
      let t = ap (λ p. y.figures * p) (ten-more x.exponent) in
      rw m (omega arith))

  next-ceiling : (e : ℕ) → 999999999 < ceil_div (q.top * 10 ^ (e + 1)) q.under → decimal 999999999 (e + 1) <ᶠ q
  next-ceiling e h =
      ⊎_elim (λ z. z)
      (λ (z : q.top * 10 ^ (e + 1) ≤ 999999999 * q.under).
      absurd (let l = ceil-least (q.top * 10 ^ (e + 1)) q.under q.above_zero 999999999 z in omega arith))
      (cases_lt (999999999 * q.under) (q.top * 10 ^ (e + 1)))

  module _ (k : ℕ) (f : Fitted (λ e. ceil_div (q.top * 10 ^ e) q.under) 52 k) where
    ceiling-unit : 8 + k ≤ 8 → RoundedUp q unit
    ceiling-unit z =
        let e : 8 + k ≡ 8 = omega arith in
        let n = next-ceiling (8 + k) (f.next (omega arith)) in
        unit-up (rw e at n)

    ceiling-nought : ceil_div (q.top * 10 ^ (8 + k)) q.under ≡ 0 → RoundedUp q nought
    ceiling-nought z =
        let a = rw z at (ceil-above (q.top * 10 ^ (8 + k)) q.under q.above_zero) in
        let p = mul-le-mul_left q.top (decimal 1 (8 + k)).above_zero in
        nought-up (omega arith)

    ceiling-nine : 8 < 8 + k → (ceil_div (q.top * 10 ^ (8 + k)) q.under ≢ 0) → RoundedUp q (nine (ceil_div (q.top * 10 ^ (8 + k)) q.under) (8 + k))
    ceiling-nine z some =
        let m = ceil_div (q.top * 10 ^ (8 + k)) q.under in
        let x = nine m (8 + k) in
        let most = f.fits (omega arith) in
        let ee : x.exponent ≡ 8 + k = omega (arith, f.within) in
        let a = ceil-above (q.top * 10 ^ (8 + k)) q.under q.above_zero in
        let b = ceil-before (q.top * 10 ^ (8 + k)) q.under q.above_zero in
        let r = mul-le-mul_right q.under (let l : m ≤ x.figures = omega arith in l) in
        let over : q ≤ᶠ worth x = rw ee (omega arith) in
        ⊎_elim
        (λ (w : 100000000 < m).
        let em : x.figures ≡ (m - 1) + 1 = omega arith in
        let c : ((m - 1) + 1) * q.under ≡ m * q.under = ap (λ n. n * q.under) (omega arith) in
        nine-up x (m - 1) em (omega arith) (rw ee (omega arith)) over)
        (λ (w : m ≤ 100000000).
        let em : x.figures ≡ 100000000 = omega arith in
        ⊎_elim
        (λ (v : k < 52). let n = next-ceiling (8 + k) (f.next v) in ten-up x em (rw ee n) over)
        (λ (v : 52 ≤ k).
        least-up x em (omega (arith, f.within))
        (⊎_elim (λ u. u)
        (λ (u : q.top ≤ 0).
        absurd (let none : q.top ≡ 0 = omega arith in
        some (le-zero (ceil-least (q.top * 10 ^ (8 + k)) q.under q.above_zero 0 (rw none (omega arith))))))
        (cases_lt 0 q.top))
        over)
        (cases_lt k 52))
        (cases_lt 100000000 m)

  pub ceiling-up : RoundedUp q (ceiling q)
  unfolding ceiling
  ceiling-up =
      let m : ℕ → ℕ = λ e. ceil_div (q.top * 10 ^ e) q.under in
      let k : ℕ = fit m 52 in
      let f = fitted m 52 in
      cond_both (nat_le (8 + k) 8) unit _ (RoundedUp q) (λ t. ceiling-unit k f (leb-true (8 + k) 8 t))
      (λ t.
      cond_both (m (8 + k) == 0) nought _ (RoundedUp q) (λ u. ceiling-nought k f (eqb-true (m (8 + k)) 0 u))
      (λ u. ceiling-nine k f (leb-false (8 + k) 8 t) (eqb-false (m (8 + k)) 0 u)))

pub rounds : Rounds nine_rounding
rounds = record { to_one = to_one; downward = floor-down; upward = ceiling-up }

pub rounded : Rounded nine_figures
rounded = rounded_from rounds
