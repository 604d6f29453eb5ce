use Rattle.std.proofs.Common.{inl, inr, ◌∙◌}
use Rattle.scale.proofs.NineOps.{plus-comm-floor, plus-comm-ceiling}
use Rattle.scale.proofs.nine_figures.rounded.add.Goals as goal

pub returns : goal.returns
returns c = elim c.ordered.ensures.both [
  | inl same ↦ rw same.0 at (rw same.1 at c.add_ordered.ensures)
  | inr swapped ↦ let sum = rw swapped.0 at (rw swapped.1 at c.add_ordered.ensures) in record {
    down = sum.down ∙ plus-comm-floor c.args.x c.args.y;
    up = sum.up ∙ plus-comm-ceiling c.args.x c.args.y;
  }
]
