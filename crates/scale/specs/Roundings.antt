-- Scales that come from rounding every fraction: their arithmetic is right, and each answer is known by its value.
use Rattle.std.specs.Prelude.{◌≡◌, ◌<◌, ◌≤◌}
use Rattle.std.proofs.Common.{⊎_elim, arith}
use Rattle.std.proofs.lemmas.Bool.{cases_lt, le-leb, leb-true}
use Rattle.scale.specs.Fractions.{Fraction, ◌≤ᶠ◌, ◌=ᶠ◌, whole}
use Rattle.scale.specs.Arithmetic.{Down, Up, Rounded, OneNumberForEachValue}
use Rattle.scale.specs.Rounding.{Rounding, arithmetic_of}
use Rattle.scale.specs.FractionOrder.{at-most-trans}

-- every fraction is rounded as it should be
pub record Rounds {N : Type 0} (m : Rounding N) : Type 0 where
  pub to_one : (x : N) → m.value x ≤ᶠ whole 1
  pub downward : (q : Fraction) → Down m.value q (m.down q)
  pub upward : (q : Fraction) → Up m.value q (m.up q)

module _ {N : Type 0} {m : Rounding N} (laws : Rounds m) where
  -- what is not below 1 reaches 1
  pub held : (q : Fraction) → whole 1 ≤ᶠ q → whole 1 ≤ᶠ m.value (m.up q)
  held q h = omega (arith, (laws.upward q).held_at_one h)

  one_reached : whole 1 ≤ᶠ m.value (m.down (whole 1))
  one_reached =
      at-most-trans (whole 1) (m.value (m.up (whole 1))) (m.value (m.down (whole 1))) (held (whole 1) (omega arith))
      ((laws.downward (whole 1)).largest (m.up (whole 1)) (laws.to_one (m.up (whole 1))))

  pub rounded_from : Rounded (arithmetic_of m)
  rounded_from = record {
    values_reach_to_one = laws.to_one;
    zero_is_0 = omega (arith, (laws.downward (whole 0)).not_above);
    one_is_1 = omega (arith, laws.to_one (m.down (whole 1)), one_reached);
    times_down = λ n r. laws.downward _;
    times_up = λ n r. laws.upward _;
    sum_down = λ x y. laws.downward _;
    sum_up = λ x y. laws.upward _;
    less_down = λ x y. laws.downward _;
    at_most_if = λ x y h. le-leb _ _ h;
    at_most_only_if = λ x y t. leb-true _ _ t;
  }

  module _ (one : OneNumberForEachValue (arithmetic_of m)) where
    between : (x y : N) → m.value x ≤ᶠ m.value y → m.value y ≤ᶠ m.value x → x ≡ y
    between x y h i = one x y (omega arith)

    -- a number that is q rounded down is down q
    pub down_is : (q : Fraction) (x : N) → Down m.value q x → x ≡ m.down q
    down_is q x d = between x (m.down q) ((laws.downward q).largest x d.not_above) (d.largest (m.down q) (laws.downward q).not_above)

    -- the same number for p and q, where no number lies above p and not above q
    pub down_moves : (p q : Fraction) → p ≤ᶠ q → ((y : N) → m.value y ≤ᶠ q → m.value y ≤ᶠ p) → m.down p ≡ m.down q
    down_moves p q h i = down_is q (m.down p) (record {
      not_above = at-most-trans (m.value (m.down p)) p q (laws.downward p).not_above h;
      largest = λ y k. (laws.downward p).largest y (i y k);
    })

    -- a number that is q rounded up is up q
    pub up_is : (q : Fraction) (x : N) → Up m.value q x → x ≡ m.up q
    up_is q x u =
        ⊎_elim
        (λ (z : q.under < q.top). one x (m.up q)
        (let h = u.held_at_one (omega arith) in let k = (laws.upward q).held_at_one (omega arith) in same_at_one x (m.up q) h k))
        (λ (z : q.top ≤ q.under).
        between x (m.up q) (u.smallest (m.up q) ((laws.upward q).not_below (omega arith))) ((laws.upward q).smallest x (u.not_below (omega arith))))
        (cases_lt q.under q.top)
      where
        same_at_one : (x y : N) → m.value x =ᶠ whole 1 → m.value y =ᶠ whole 1 → m.value x =ᶠ m.value y
        same_at_one x y h k =
            let e : (m.value x).top ≡ (m.value x).under = omega arith in
            let f : (m.value y).top ≡ (m.value y).under = omega arith in
            rw (e, f) (omega arith)

    -- the same number for p and q, where no number lies below p and not below q
    pub up_moves : (p q : Fraction) → q ≤ᶠ p → ((y : N) → q ≤ᶠ m.value y → p ≤ᶠ m.value y) → m.up p ≡ m.up q
    up_moves p q h i = up_is q (m.up p) (record {
      not_below = λ k.
          ⊎_elim
          (λ (z : p.under < p.top). at-most-trans q (whole 1) (m.value (m.up p)) k (held p (omega arith)))
          (λ (z : p.top ≤ p.under). at-most-trans q p (m.value (m.up p)) h ((laws.upward p).not_below (omega arith)))
          (cases_lt p.under p.top);
      smallest = λ y k. (laws.upward p).smallest y (i y k);
      held_at_one = λ k. (laws.upward p).held_at_one (at-most-trans (whole 1) q p k h);
    })

    -- fractions of one value round alike
    pub down_same : (p q : Fraction) → p =ᶠ q → m.down p ≡ m.down q
    down_same p q s = down_moves p q (omega arith) (λ y k. at-most-trans (m.value y) q p k (omega arith))

    pub up_same : (p q : Fraction) → p =ᶠ q → m.up p ≡ m.up q
    up_same p q s = up_moves p q (omega arith) (λ y k. at-most-trans p q (m.value y) (omega arith) k)

    -- a number is its own value rounded
    pub down_value : (x : N) → x ≡ m.down (m.value x)
    down_value x = down_is (m.value x) x (record { not_above = omega arith; largest = λ y h. h })

    pub up_value : (x : N) → x ≡ m.up (m.value x)
    up_value x =
        between x (m.up (m.value x)) ((laws.upward (m.value x)).not_below (laws.to_one x)) ((laws.upward (m.value x)).smallest x (omega arith))
