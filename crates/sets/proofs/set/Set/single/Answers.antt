use Rattle.std.proofs.Common.{◌∙◌, arith}
use Rattle.std.proofs.lemmas.Nat.{one_shl, pow_below}
use Rattle.sets.proofs.Widths.{single-is, single-none}
use Rattle.sets.proofs.set.Set.single.Goals as goal

pub of-requires : goal.of-requires
of-requires g c = rw (one_shl c.args.k 64 (omega (arith, g.W.Width.narrow))) (pow_below c.args.k g.W.Width.BITS (omega arith))

pub returns-then-k-BITS : goal.returns-then-k-BITS
returns-then-k-BITS g c = c.of.ensures ∙ one_shl c.args.k 64 (omega (arith, g.W.Width.narrow)) ∙ single-is g.W.Width.BITS c.args.k (omega arith)

pub returns-else-k-BITS : goal.returns-else-k-BITS
returns-else-k-BITS g c = c.new.ensures ∙ single-none g.W.Width.BITS c.args.k (omega arith)
