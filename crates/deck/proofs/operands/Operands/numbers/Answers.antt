use Rattle.std.proofs.Common.{length-set, rules, arith}
use Rattle.deck.proofs.Pieces.{number_more}
use Rattle.deck.proofs.operands.Operands.numbers.Goals as goal

pub loop-place-preserved : goal.loop-place-preserved
loop-place-preserved g c = record {
  long = simp length-set c.loop-place.invariant.long;
  read = number_more g.row.N c.loop-place.place-index c.loop-place.place-items _ _ _ _ c.in_ok-place.field-0 (omega arith) c.loop-place.invariant.long c.loop-place.invariant.read c.in_ok-next.ensures.steps (search rules);
}
