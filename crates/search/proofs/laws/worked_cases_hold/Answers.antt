use Rattle.std.proofs.Common.{refl}
use Rattle.sets.specs.Masks.{has, collect, any, least}
use Rattle.search.specs.Search.{touches, widened, spread, held, outside, closure, crossing, branch_set, node_vector, candidate, lowest_candidate, current, grown, writes, status, barring, written, tried, next, run}
use Rattle.search.specs.Cases.{shown}
use Rattle.search.proofs.laws.worked_cases_hold.Goals as goal

pub returns : goal.returns
unfolding has collect any least touches widened spread held outside closure crossing branch_set node_vector candidate lowest_candidate current grown writes status barring written tried next run shown
returns c = record { crossed = refl; tied = refl; parted = refl; tailed = refl; ring = refl; spur = refl }
