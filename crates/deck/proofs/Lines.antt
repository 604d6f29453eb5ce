-- The state between two lines, and one line more.
use Rattle.std.proofs.Common.{◌≡◌, ℕ, ◌+◌, ◌≤◌, List, [], ◌∷◌, map, length, Ok, Err, Result, refl, ap, ◌∙◌, subst, arith}
use Rattle.refusals.specs.declared.deck_fault.DeckFault.{DeckFault}
use Rattle.deck.specs.Words.{words}
use Rattle.deck.specs.Cards.{card_on, cards}
use Rattle.deck.specs.Decks.{Entry, card_after, read_cards}
use Rattle.deck.specs.Drafts.{Holds, Next, TakesLine}
use Rattle.deck.specs.Left.{GivesLine}
use Rattle.deck.specs.declared.draft.Draft.{Draft}
use Rattle.deck.specs.declared.line.Line.{Line}
use Rattle.deck.specs.declared.line.Lines.{Lines}
use Rattle.deck.proofs.Steps.{answer}

-- the draft d holds the entries of the lines before those that are left
pub record Between (bytes : List ℕ) (left : Lines) (d : Draft) : Type 0 where
  pub es : List Entry
  pub holds : Holds d es
  pub at : left.number ≡ length es + 1
  pub reads : read_cards [] (cards bytes) ≡ read_cards es (cards left.rest.now)

module _ (bytes : List ℕ) (before left : Lines) (line : Line) (d : Draft) (now : Between bytes before d) (g : GivesLine before line left) where
  told : (o : Result Entry DeckFault) → card_after now.es (card_on (words line.bytes.now)) ≡ o → read_cards [] (cards bytes) ≡ answer now.es (cards left.rest.now) (length now.es + 1) o
  unfolding answer
  told o e = now.reads ∙ ap (λ ls. read_cards now.es (map (λ l. card_on (words l)) ls)) g.bytes ∙ ap (answer now.es (cards left.rest.now) (length now.es + 1)) e

  taken : (after : Draft) (o : Result Entry DeckFault) → card_after now.es (card_on (words line.bytes.now)) ≡ o → Next now.es o (Ok tt) after → Between bytes left after
  unfolding answer
  taken after (Ok e) p q = record {
    es = e ∷ now.es;
    holds = q.1;
    at = omega (arith, now.at, g.next);
    reads = told (Ok e) p;
  }
  taken after (Err f) p q = absurd cc

  -- a line that the draft takes
  pub line_ok : (r : Result (Unit {0}) DeckFault) (after : Draft) → TakesLine d line.number line.bytes.now r after → r ≡ Ok tt → Between bytes left after
  line_ok r after takes e = taken after _ refl (subst (λ t. Next now.es (card_after now.es (card_on (words line.bytes.now))) t after) e (takes now.es now.holds (g.number ∙ now.at)))

-- the same, of a deck so short that its line numbers fit 32 bits
pub record LinesFit (bytes : List ℕ) (left : Lines) (d : Draft) : Type 0 where
  pub between : Between bytes left d
  pub room : left.number + length left.rest.now ≤ 65537

-- they still fit after a line that the draft takes
pub lines_fit : (bytes : List ℕ) (before left : Lines) (line : Line) (d : Draft) → LinesFit bytes before d → GivesLine before line left → (r : Result (Unit {0}) DeckFault) (after : Draft) → TakesLine d line.number line.bytes.now r after → r ≡ Ok tt → LinesFit bytes left after
lines_fit bytes before left line d now g r after takes e = record {
  between = line_ok bytes before left line d now.between g r after takes e;
  room = omega (arith, now.room, g.shorter);
}
