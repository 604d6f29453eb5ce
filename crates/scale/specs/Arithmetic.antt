-- What a scale is: numbers of a kind of its own, each with its value, and arithmetic that is rounded to those values.
use Rattle.std.specs.Prelude.{◌≡◌, Bool, true}
use Rattle.network.specs.declared.rating.Rating.{Rating}
use Rattle.scale.specs.Fractions.{Fraction, whole, decimal, ◌≤ᶠ◌, ◌=ᶠ◌, ◌+ᶠ◌, ◌-ᶠ◌, ◌×ᶠ◌}

-- the chance that a branch of this rating fails
abbrev pub chance : Rating → Fraction
chance r = decimal r.mantissa r.exponent

-- what a scale offers: 0, 1, a number times a rating, a sum, a difference, and an order
pub record Arithmetic (Num : Type 0) : Type 0 where
  pub value : Num → Fraction
  pub zero : Num
  pub one : Num
  pub times_down : Num → Rating → Num
  pub times_up : Num → Rating → Num
  pub sum_down : Num → Num → Num
  pub sum_up : Num → Num → Num
  pub less_down : Num → Num → Num
  pub at_most : Num → Num → Bool

module _ {Num : Type 0} (value : Num → Fraction) where
  -- n has the largest value that is not above the exact result
  pub record Down (exact : Fraction) (n : Num) : Type 0 where
    pub not_above : value n ≤ᶠ exact
    pub largest : (m : Num) → value m ≤ᶠ exact → value m ≤ᶠ value n

  -- n has the smallest value that is not below the exact result, and the value 1 where that passes 1
  pub record Up (exact : Fraction) (n : Num) : Type 0 where
    pub not_below : exact ≤ᶠ whole 1 → exact ≤ᶠ value n
    pub smallest : (m : Num) → exact ≤ᶠ value m → value n ≤ᶠ value m
    pub held_at_one : whole 1 ≤ᶠ exact → value n =ᶠ whole 1

-- what every scale shows, of all its numbers and all ratings
pub record Rounded {Num : Type 0} (s : Arithmetic Num) : Type 0 where
  pub values_reach_to_one : (n : Num) → s.value n ≤ᶠ whole 1
  pub zero_is_0 : s.value s.zero =ᶠ whole 0
  pub one_is_1 : s.value s.one =ᶠ whole 1
  pub times_down : (n : Num) (r : Rating) → Down s.value (s.value n ×ᶠ chance r) (s.times_down n r)
  pub times_up : (n : Num) (r : Rating) → Up s.value (s.value n ×ᶠ chance r) (s.times_up n r)
  pub sum_down : (m n : Num) → Down s.value (s.value m +ᶠ s.value n) (s.sum_down m n)
  pub sum_up : (m n : Num) → Up s.value (s.value m +ᶠ s.value n) (s.sum_up m n)
  pub less_down : (m n : Num) → Down s.value (s.value m -ᶠ s.value n) (s.less_down m n)
  pub at_most_if : (m n : Num) → s.value m ≤ᶠ s.value n → s.at_most m n ≡ true
  pub at_most_only_if : (m n : Num) → s.at_most m n ≡ true → s.value m ≤ᶠ s.value n

-- equal values are equal numbers
abbrev pub OneNumberForEachValue : {Num : Type 0} → Arithmetic Num → Type 0
OneNumberForEachValue {Num} s = (m n : Num) → s.value m =ᶠ s.value n → m ≡ n
