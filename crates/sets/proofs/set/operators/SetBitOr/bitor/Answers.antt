use Rattle.std.specs.Int.Bits.{or_lt}
use Rattle.sets.proofs.set.operators.SetBitOr.bitor.Goals as goal

pub of-requires : goal.of-requires
of-requires g c = or_lt g.W.Width.BITS _ _ c.self.invariant c.other.invariant
