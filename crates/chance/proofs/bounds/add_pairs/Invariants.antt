use Rattle.std.proofs.Common.{◌≡◌, map, take}
use lib.Bits.{bit_or}
use Rattle.chance.specs.Bounds.{added_up}
use Rattle.chance.specs.Rows.{branch_sets}
use Rattle.chance.proofs.bounds.add_pairs.Given as goal

abbrev pub invariant-loop-row : goal.invariant-loop-row
invariant-loop-row g l =
    l.all ≡ added_up g.S.Scale.arithmetic l.ratings l.initial.all (map (λ row. bit_or row l.set) (branch_sets (take l.row-index l.earlier)))
