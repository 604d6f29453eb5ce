use Rattle.std.proofs.Common.{◌≡◌, ◌-◌, length, take}
use Rattle.deck.specs.Words.{numbers_in}
use Rattle.deck.specs.Left.{words_left}
use Rattle.deck.proofs.Pieces.{after}
use Rattle.deck.proofs.operands.Operands.numbers.Given as goal

abbrev pub invariant-loop-place : goal.invariant-loop-place
invariant-loop-place g l = record {
  long : length l.place-items ≡ g.row.N;
  read : numbers_in g.row.N (words_left l.fn.self) ≡ after (take l.place-index l.place-items) (numbers_in (g.row.N - l.place-index) (words_left l.words));
}
