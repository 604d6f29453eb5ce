use Rattle.std.proofs.Common.{◌≡◌, take}
use Rattle.chance.specs.Bounds.{row_sum, pair_sum, added_up}
use Rattle.chance.specs.Rows.{branch_sets}
use Rattle.chance.proofs.RowSteps.{best_of}
use Rattle.chance.proofs.bounds.bounds_from.Given as goal

abbrev pub invariant-loop-j : goal.invariant-loop-j
invariant-loop-j g l =
    let s = g.S.Scale.arithmetic in
    let before = branch_sets (take l.j l.rows) in record {
      first : l.s1 ≡ row_sum s l.ratings before;
      second : l.s2 ≡ pair_sum s l.ratings before;
      best : l.low ≡ best_of s l.ratings before;
      all : l.sum ≡ added_up s l.ratings s.zero before;
    }
