use Rattle.std.proofs.Common.{not, ap, ◌∙◌}
use Rattle.std.specs.Bool.{then_some}
use lib.Count.{count_trailing_zeros}
use Rattle.sets.proofs.Widths.{lowest-is}
use Rattle.sets.proofs.set.Set.first.Goals as goal

pub returns : goal.returns
returns g c =
    c.then_some.ensures ∙ ap (λ b. then_some (not b) (count_trailing_zeros 64 c.self.inside.word)) c.is_empty.ensures
    ∙ rw c.self.view_is (lowest-is 64 g.W.Width.BITS c.args.self g.W.Width.narrow (rw c.self.view_is at c.self.invariant))
