-- An arithmetic that comes from rounding every fraction: each operation rounds its exact result.
use Rattle.std.specs.Prelude.{◌*◌, nat_le}
use Rattle.scale.specs.Fractions.{Fraction, whole, ◌+ᶠ◌, ◌-ᶠ◌, ◌×ᶠ◌}
use Rattle.scale.specs.Arithmetic.{Arithmetic, chance}

-- the value of each number, and the numbers that a fraction is rounded to
pub record Rounding (Num : Type 0) : Type 0 where
  pub value : Num → Fraction
  pub down : Fraction → Num
  pub up : Fraction → Num

abbrev pub arithmetic_of : {Num : Type 0} → Rounding Num → Arithmetic Num
arithmetic_of s = record {
  value = s.value;
  zero = s.down (whole 0);
  one = s.down (whole 1);
  times_down = λ n r. s.down (s.value n ×ᶠ chance r);
  times_up = λ n r. s.up (s.value n ×ᶠ chance r);
  sum_down = λ m n. s.down (s.value m +ᶠ s.value n);
  sum_up = λ m n. s.up (s.value m +ᶠ s.value n);
  less_down = λ m n. s.down (s.value m -ᶠ s.value n);
  at_most = λ m n. nat_le ((s.value m).top * (s.value n).under) ((s.value n).top * (s.value m).under);
}
