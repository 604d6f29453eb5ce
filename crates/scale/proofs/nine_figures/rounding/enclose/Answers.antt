use Rattle.std.proofs.Common.{sym, ap, ◌∙◌, arith}
use Rattle.scale.specs.Fractions.{decimal}
use Rattle.scale.specs.NineFigures.{floor, ceiling}
use Rattle.scale.proofs.NineSteps.{floor-none, ceiling-none, floor-unit, ceiling-unit, from-first, floor-step, ceiling-cut}
use Rattle.scale.proofs.nine_figures.rounding.enclose.Goals as goal

pub returns-then-figures-eq0 : goal.returns-then-figures-eq0
returns-then-figures-eq0 c =
    let e = c.args.exponent in
    let none = sym c.if-figures-eq0.true in record {
      down = c.exactly.ensures.down ∙ c.nought.ensures ∙ floor-none e ∙ ap (λ n. floor (decimal n e)) none;
      up = c.exactly.ensures.up ∙ c.nought.ensures ∙ ceiling-none e ∙ ap (λ n. ceiling (decimal n e)) none;
    }

pub returns-then-first-exponent : goal.returns-then-first-exponent
returns-then-first-exponent c =
    let whole = from-first c.args.figures c.args.exponent c.ilog10-first.result c.ilog10-first.ensures.power_le (omega arith) in record {
      down = c.exactly-then-first-exponent.ensures.down ∙ c.unit.ensures ∙ floor-unit c.args.figures c.args.exponent whole;
      up = c.exactly-then-first-exponent.ensures.up ∙ c.unit.ensures ∙ ceiling-unit c.args.figures c.args.exponent whole;
    }

pub returns : goal.returns
returns c =
    let q = decimal c.args.figures c.args.exponent in
    let nine = c.of-nine.result in
    let is = c.of-nine.ensures in record {
      down = c.number_below.ensures ∙ floor-step q nine.down nine.exponent nine.nine.0 is.not_above is.last;
      up = c.number_above.ensures ∙ ceiling-cut q nine.down nine.exponent nine.up nine.nine.0 is.last is.up;
    }
