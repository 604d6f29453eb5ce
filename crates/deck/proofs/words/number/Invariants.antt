use Rattle.deck.proofs.Numbers.{Sofar}
use Rattle.deck.proofs.words.number.Given as goal

abbrev pub invariant-loop-digit : goal.invariant-loop-digit
invariant-loop-digit l = Sofar l.word l.digit-index l.value
