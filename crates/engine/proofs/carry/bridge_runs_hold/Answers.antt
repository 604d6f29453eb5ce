use Rattle.std.proofs.Common.{refl}
use Rattle.sets.specs.Masks.{has, collect, any, least}
use Rattle.search.specs.Search.{touches, widened, spread, linked, held, outside, closure, crossing, branch_set, node_vector, candidate, lowest_candidate, current, grown, writes, status, barring, written, tried, next, run}
use Rattle.chance.specs.CutOff.{every, sum_below, product_below, cut_off_chance}
use Rattle.engine.specs.Cases.{shown, tries, given}
use Rattle.engine.proofs.carry.bridge_runs_hold.Goals as goal

pub returns : goal.returns
unfolding has collect any least touches widened spread linked held outside closure crossing branch_set node_vector candidate lowest_candidate current grown writes status barring written tried next run every sum_below product_below cut_off_chance shown tries given
returns g c first second = record { chance = refl; refused = refl; halfway = refl; counted = refl; to_the_end = refl; aimed_anew = refl; set_up_anew = refl }
