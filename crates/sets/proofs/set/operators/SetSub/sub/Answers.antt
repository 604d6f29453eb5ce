use Rattle.std.proofs.Common.{◌∙◌}
use Rattle.sets.proofs.Collected.{and-not}
use Rattle.sets.proofs.set.operators.SetSub.sub.Goals as goal

pub returns : goal.returns
returns g c = c.of.ensures ∙ rw (c.self.view_is, c.other.view_is) (and-not 64 g.W.Width.BITS c.args.self c.args.other g.W.Width.narrow (rw c.self.view_is at c.self.invariant) (rw c.other.view_is at c.other.invariant))
