use Rattle.std.proofs.Common.{◌-◌, ap, ◌∙◌, inl, inr, arith}
use Rattle.scale.specs.Fractions.{decimal}
use Rattle.scale.specs.NineFigures.{floor}
use Rattle.scale.specs.NineForms.{some-figures}
use Rattle.scale.proofs.NineOps.{less-nothing-floor, nothing-less-floor, smaller-less-floor, less-near-floor, less-far-floor}
use Rattle.scale.proofs.nine_figures.rounded.NineFiguresScale.less_down.Goals as goal

pub returns-then-x-eq0 : goal.returns-then-x-eq0
returns-then-x-eq0 c = elim c.then-x-eq0.either [
  | inl none ↦ nothing-less-floor c.args.x c.args.y none
  | inr none ↦ less-nothing-floor c.args.x c.args.y none.1
]

pub returns-then-x-y : goal.returns-then-x-y
returns-then-x-y c = c.nought.ensures ∙ smaller-less-floor c.args.x c.args.y (omega arith) (omega arith)

pub returns-then-y-x-gt-LESS_GAP : goal.returns-then-y-x-gt-LESS_GAP
returns-then-y-x-gt-LESS_GAP c =
    c.enclose.ensures.down ∙ less-far-floor c.args.x c.args.y (omega arith) (some-figures c.args.x (omega arith)) (omega arith) (omega arith)

pub returns : goal.returns
returns c =
    c.enclose-2.ensures.down ∙ ap (λ n. floor (decimal n c.args.y.exponent)) (c.saturating_sub-left.ensures ∙ ap (λ n. n - c.args.y.figures) c.figures_over.ensures) ∙ less-near-floor c.args.x c.args.y (omega arith)
