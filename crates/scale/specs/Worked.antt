-- Worked cases of the two scales: what the rules give, and that the code answers it.
use Rattle.std.specs.Prelude.{◌≡◌}
use Rattle.std.proofs.Common.{arith}
use Rattle.network.specs.declared.rating.Rating.{Rating}
use Rattle.scale.specs.Billionths.{held, billionths}
use Rattle.scale.specs.NineFigures.{unit, nine, nine_figures}
use Rattle.scale.specs.declared.worked_cases.WorkedCases.{WorkedCases}

abbrev tenth : Rating
tenth = record { mantissa = 100000000; exponent = 9; small = omega arith; least = omega arith; most = omega arith }

pub record ProductsAndDifferenceByHand (found : WorkedCases) : Type 0 where
  -- 1 / 10^9 times 0.1 in billionths
  pub down_is_0 : (billionths.times_down (held 1) tenth).units ≡ 0
  pub up_is_1 : (billionths.times_up (held 1) tenth).units ≡ 1
  -- the same in nine figures is exact
  pub fine_down : nine_figures.times_down (nine 100000000 17) tenth ≡ nine 100000000 18
  pub fine_up : nine_figures.times_up (nine 100000000 17) tenth ≡ nine 100000000 18
  -- 1 less 10^-20
  pub less : nine_figures.less_down unit (nine 100000000 28) ≡ nine 999999999 9
  pub found_down : found.down ≡ held 0
  pub found_up : found.up ≡ held 1
  pub found_fine_down : found.fine_down ≡ nine 100000000 18
  pub found_fine_up : found.fine_up ≡ nine 100000000 18
  pub found_less : found.less ≡ nine 999999999 9
