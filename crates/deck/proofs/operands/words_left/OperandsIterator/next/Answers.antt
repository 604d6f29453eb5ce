use Rattle.std.proofs.Common.{refl, rules}
use Rattle.deck.proofs.Pieces.{next_word}
use Rattle.deck.proofs.operands.words_left.OperandsIterator.next.Goals as goal

pub invariant_of-self : goal.invariant_of-self
invariant_of-self c = record { at_word_end = (next_word c.args.self.now.text.now _ _ _ _ c.in-32.len_at_least refl c.length_before.ensures c.split_at.ensures.front c.split_at.ensures.back).0 }

pub returns-clause-steps : goal.returns-clause-steps
returns-clause-steps c = (next_word c.args.self.now.text.now _ _ _ _ c.in-32.len_at_least refl c.length_before.ensures c.split_at.ensures.front c.split_at.ensures.back).1

pub returns-clause-goes : goal.returns-clause-goes
returns-clause-goes c = let left = (next_word c.args.self.now.text.now _ _ _ _ c.in-32.len_at_least refl c.length_before.ensures c.split_at.ensures.front c.split_at.ensures.back).1 in search rules
