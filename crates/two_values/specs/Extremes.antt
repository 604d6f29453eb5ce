-- 0 and 1 keep the laws of a scale.
use Rattle.std.specs.Prelude.{◌≡◌, ◌*◌, ◌^◌, ◌<◌, ◌≤◌, ◌==◌, ◌≢◌, nat_le, refl}
use Rattle.std.proofs.Common.{sym, arith}
use Rattle.std.proofs.lemmas.Bool.{cond_both, cond-true, cond-false, le-leb, lt-leb, leb-true, leb-false, eqb-true, eqb-false}
use Rattle.network.specs.declared.rating.Rating.{Rating}
use Rattle.scale.specs.Fractions.{Fraction, whole, ◌≤ᶠ◌, ◌×ᶠ◌}
use Rattle.scale.specs.Arithmetic.{Down, Up, Rounded, chance}
use Rattle.scale.specs.Roundings.{rounded_from}
use Rattle.two_values.specs.TwoValues.{worth, floor, ceiling, two_values}
use Rattle.two_values.specs.declared.extreme.Extreme.{Extreme}
use Rattle.two_values.specs.declared.extreme.Extreme.TheVariants.{Never, Surely}

to_one : (n : Extreme) → worth n ≤ᶠ whole 1
to_one Never = omega arith
to_one Surely = omega arith

module _ (q : Fraction) where
  surely-down : q.under ≤ q.top → Down worth q Surely
  surely-down h = record { not_above = omega arith; largest = λ n _. to_one n }

  none_below : q.top < q.under → (n : Extreme) → worth n ≤ᶠ q → worth n ≤ᶠ whole 0
  none_below h Never i = omega arith
  none_below h Surely i = absurd (omega arith)

  never-down : q.top < q.under → Down worth q Never
  never-down h = record { not_above = omega arith; largest = none_below h }

  down : Down worth q (floor q)
  down =
      cond_both (nat_le q.under q.top) Surely Never (Down worth q) (λ t. surely-down (leb-true q.under q.top t))
      (λ t. never-down (leb-false q.under q.top t))

  never-up : q.top ≡ 0 → Up worth q Never
  never-up e = record {
    not_below = λ _. omega arith;
    smallest = λ n _. omega arith;
    held_at_one = λ h. absurd (omega (arith, q.above_zero));
  }

  none_above : (q.top ≢ 0) → (n : Extreme) → q ≤ᶠ worth n → whole 1 ≤ᶠ worth n
  none_above ne Never i = absurd (ne (omega arith))
  none_above ne Surely i = omega arith

  surely-up : (q.top ≢ 0) → Up worth q Surely
  surely-up ne = record { not_below = λ h. h; smallest = none_above ne; held_at_one = λ _. refl }

  up : Up worth q (ceiling q)
  up =
      cond_both (q.top == 0) Never Surely (Up worth q) (λ t. never-up (eqb-true q.top 0 t))
      (λ t. surely-up (eqb-false q.top 0 t))

pub rounded : Rounded two_values
rounded = rounded_from (record { to_one = to_one; downward = down; upward = up })

-- a number times a rating of 1 stays
pub kept : (x : Extreme) (r : Rating) → 10 ^ r.exponent ≤ r.mantissa → x ≡ floor (worth x ×ᶠ chance r)
kept Never r h = let p = (chance r).above_zero in sym (cond-false _ _ _ (lt-leb (1 * 10 ^ r.exponent) (0 * r.mantissa) (omega arith)))
kept Surely r h = sym (cond-true _ _ _ (le-leb (1 * 10 ^ r.exponent) (1 * r.mantissa) (omega arith)))
