use Rattle.std.proofs.Common.{◌∙◌, arith}
use Rattle.sets.proofs.Widths.{ones-small, below-min}
use Rattle.sets.proofs.set.Set.below.Goals as goal

pub of-requires : goal.of-requires
of-requires g c = rw c.ones.ensures (ones-small g.W.Width.BITS c.min.result (omega arith))

pub returns : goal.returns
returns g c = c.of.ensures ∙ c.ones.ensures ∙ below-min g.W.Width.BITS c.args.count c.min.result (omega arith)
