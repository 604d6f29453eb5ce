use Rattle.std.proofs.Common.{length, Ok, rules}
use Rattle.deck.proofs.Promises.{deck-laws, deck-refusal}
use Rattle.deck.proofs.reader.read_deck.Goals as goal

pub returns-in_err-map_err-clause-refusal : goal.returns-in_err-map_err-clause-refusal
returns-in_err-map_err-clause-refusal c = deck-refusal c.args.bytes.now (length c.args.table.now) _ (search rules)

pub returns-in_err-map_err-clause-laws : goal.returns-in_err-map_err-clause-laws
returns-in_err-map_err-clause-laws c = deck-laws _ _ _ _ (search rules) (search rules)

pub returns-in_err-deck-clause-refusal : goal.returns-in_err-deck-clause-refusal
returns-in_err-deck-clause-refusal c = deck-refusal c.args.bytes.now (length c.args.table.now) _ (search rules)

pub returns-in_err-deck-clause-laws : goal.returns-in_err-deck-clause-laws
returns-in_err-deck-clause-laws c = deck-laws _ _ _ _ (search rules) (search rules)

pub returns-clause-refusal : goal.returns-clause-refusal
returns-clause-refusal c = deck-refusal c.args.bytes.now (length c.args.table.now) (Ok c.in_ok-deck.deck) (search rules)

pub returns-clause-laws : goal.returns-clause-laws
returns-clause-laws c = deck-laws _ _ _ _ (search rules) (search rules)
