use Rattle.std.proofs.Common.{refl}
use Rattle.sets.specs.Masks.{has, collect, any, least}
use Rattle.search.specs.Search.{touches, widened, spread, linked, held, outside, closure, crossing, branch_set, node_vector, candidate, lowest_candidate, current, grown, writes, status, barring, written, tried, next, run}
use Rattle.search.specs.Cases.{shown}
use Rattle.chance.specs.Bounds.{chosen, united, prefixes, largest, product_down, product_up, added_up, row_sum, low, high}
use Rattle.chance.specs.CutOff.{every, sum_below, product_below, cut_off_chance}
use Rattle.scale.specs.NineFigures.{floor, fit, ceiling}
use Rattle.worked.proofs.cases_hold.Goals as goal

pub returns : goal.returns
unfolding has collect any least touches widened spread linked held outside closure crossing branch_set node_vector candidate lowest_candidate current grown writes status barring written tried next run shown chosen united prefixes largest product_down product_up added_up row_sum low high every sum_below product_below cut_off_chance floor fit ceiling
returns c = record {
  six_searches = record { crossed = refl; tied = refl; parted = refl; tailed = refl; ring = refl; spur = refl };
  exact_chance_of_the_bridge = refl;
  low_of_the_bridge = refl;
  high_of_the_bridge = refl;
  fine_low_of_the_bridge = refl;
  fine_high_of_the_bridge = refl;
  high_before_the_end = refl;
  one_branch = refl;
  never_low = refl;
  never_high = refl;
  no_such_door = refl;
  door_at_the_head = refl;
  door_not_joined = refl;
  door_never_parted = refl;
  door_taken = refl;
  billionth_down = refl;
  billionth_up = refl;
  fine_product_down = refl;
  fine_product_up = refl;
  fine_difference = refl;
}
