use Rattle.std.proofs.Common.{◌+◌, ap, ◌∙◌, arith}
use Rattle.scale.specs.Fractions.{decimal}
use Rattle.scale.specs.NineFigures.{floor, ceiling}
use Rattle.scale.proofs.NineOps.{plus-none-floor, plus-none-ceiling, plus-near-floor, plus-near-ceiling, plus-far-floor, plus-far-ceiling}
use Rattle.scale.proofs.nine_figures.rounded.add_ordered.Goals as goal

pub returns-then-y-eq0 : goal.returns-then-y-eq0
returns-then-y-eq0 c = record {
  down = c.exactly.ensures.down ∙ plus-none-floor c.args.x c.args.y c.if-y-eq0.true;
  up = c.exactly.ensures.up ∙ plus-none-ceiling c.args.x c.args.y c.if-y-eq0.true;
}

pub returns-then-y-x-gt-SUM_GAP : goal.returns-then-y-x-gt-SUM_GAP
returns-then-y-x-gt-SUM_GAP c = record {
  down = plus-far-floor c.args.x c.args.y (omega arith) (omega arith) (omega arith);
  up = c.enclose.ensures.up ∙ plus-far-ceiling c.args.x c.args.y (omega arith) (omega arith) (omega arith) (omega arith);
}

pub returns : goal.returns
returns c =
    record {
      down = c.enclose-2.ensures.down ∙ ap (λ n. floor (decimal (n + c.args.y.figures) c.args.y.exponent)) c.figures_over.ensures ∙ plus-near-floor c.args.x c.args.y (omega arith);
      up = c.enclose-2.ensures.up ∙ ap (λ n. ceiling (decimal (n + c.args.y.figures) c.args.y.exponent)) c.figures_over.ensures ∙ plus-near-ceiling c.args.x c.args.y (omega arith);
    }
