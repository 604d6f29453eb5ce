use Rattle.std.proofs.Common.{◌∙◌}
use Rattle.sets.proofs.Widths.{contains-is}
use Rattle.sets.proofs.set.Set.contains.Goals as goal

pub returns : goal.returns
returns g c = rw c.self.view_is (contains-is g.W.Width.BITS c.args.self _ c.args.k (rw c.self.view_is at c.self.invariant) (c.result.view_is ∙ c.single.ensures))
