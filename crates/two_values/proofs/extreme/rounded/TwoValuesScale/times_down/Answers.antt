use Rattle.std.proofs.Common.{arith}
use Rattle.two_values.specs.Extremes.{kept}
use Rattle.two_values.proofs.extreme.rounded.TwoValuesScale.times_down.Goals as goal

pub returns-then-from-pow : goal.returns-then-from-pow
returns-then-from-pow c = kept c.args.x c.args.by (omega arith)
