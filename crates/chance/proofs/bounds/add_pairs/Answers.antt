use Rattle.std.proofs.Common.{take, rules}
use lib.Bits.{bit_or}
use Rattle.chance.specs.Rows.{branch_sets}
use Rattle.chance.proofs.RowSteps.{added_none, pair-more, branch_sets-more}
use Rattle.chance.proofs.bounds.add_pairs.Goals as goal

pub loop-row-init : goal.loop-row-init
loop-row-init g c = added_none g.S.Scale.arithmetic c.args.ratings.now c.args.sum

pub loop-row-preserved : goal.loop-row-preserved
loop-row-preserved g c =
    let row = c.row-item.result in
    rw (branch_sets-more c.args.earlier.now c.loop-row.row-index row c.loop-row-test.true c.row-item.is)
    (pair-more g.S.Scale.arithmetic c.args.ratings.now (λ set. bit_or set c.args.set) (branch_sets (take c.loop-row.row-index c.args.earlier.now)) row.branches c.args.sum (search rules) c.loop-row.invariant)
