use Rattle.std.proofs.Common.{◌*◌, ap, ◌∙◌, arith}
use Rattle.scale.proofs.NineOps.{times-floor, times-ceiling}
use Rattle.scale.proofs.nine_figures.rounded.multiply.Goals as goal

pub returns : goal.returns
returns c =
    let figures = ap (λ m. c.args.x.figures * m) c.from.ensures in
    record {
      down = c.enclose.ensures.down ∙ times-floor c.args.x c.args.by _ _ figures (omega arith);
      up = c.enclose.ensures.up ∙ times-ceiling c.args.x c.args.by _ _ figures (omega arith);
    }
