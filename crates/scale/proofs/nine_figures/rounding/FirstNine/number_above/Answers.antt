use Rattle.std.proofs.Common.{arith}
use Rattle.scale.proofs.NineSteps.{ceiling-least, ceiling-worth, ceiling-carry}
use Rattle.scale.proofs.nine_figures.rounding.FirstNine.number_above.Goals as goal

pub returns-then-self-gt-LAST_EXPONENT : goal.returns-then-self-gt-LAST_EXPONENT
returns-then-self-gt-LAST_EXPONENT c = ceiling-least c.args.self.up c.args.self.exponent _ (omega arith) (omega arith) (omega arith) (omega arith) (omega arith)

pub returns-then-self-eq-PAST_FIGURES : goal.returns-then-self-eq-PAST_FIGURES
returns-then-self-eq-PAST_FIGURES c = ceiling-carry _ c.args.self.up c.args.self.exponent (omega arith) (omega arith) (omega arith) (omega arith)

pub returns : goal.returns
returns c = ceiling-worth _
