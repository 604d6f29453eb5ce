use Rattle.std.proofs.Common.{◌∙◌, arith}
use Rattle.scale.proofs.NineSteps.{floor-nought, floor-worth}
use Rattle.scale.proofs.nine_figures.rounding.FirstNine.number_below.Goals as goal

pub returns-then-self-gt-LAST_EXPONENT : goal.returns-then-self-gt-LAST_EXPONENT
returns-then-self-gt-LAST_EXPONENT c = c.nought.ensures ∙ floor-nought c.args.self.down c.args.self.exponent (omega arith) (omega arith)

pub returns : goal.returns
returns c = floor-worth _
