use Rattle.sets.proofs.Widths.{disjoint-is}
use Rattle.sets.proofs.set.Set.is_disjoint.Goals as goal

pub returns : goal.returns
returns g c = rw (c.self.view_is, c.other.view_is) (disjoint-is g.W.Width.BITS c.args.self c.args.other (rw c.self.view_is at c.self.invariant) (rw c.other.view_is at c.other.invariant))
