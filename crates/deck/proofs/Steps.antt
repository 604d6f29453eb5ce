-- One card more: what it leads to, and what an accepted card went through.
use Rattle.std.proofs.Common.{◌≡◌, ℕ, ◌+◌, Bool, true, false, cond, List, ◌∷◌, length, Some, Ok, Err, Result, refl, ap}
use Rattle.refusals.specs.declared.deck_fault.DeckFault.{DeckFault}
use Rattle.refusals.specs.declared.deck_fault.DeckRefusal.{DeckRefusal}
use Rattle.refusals.specs.declared.network_fault.NetworkFault.{NetworkFault}
use Rattle.refusals.specs.declared.study_fault.StudyFault.{StudyFault}
use Rattle.network.specs.Questions.{Answer, asked, and_then}
use Rattle.deck.specs.Cards.{Keyword, Reading, card}
use Rattle.deck.specs.Decks.{Entry, entry_of, entry_asked, entered, follows, last_turn, turn_of, to_study, to_deck, card_after, read_cards, refused}

-- the rest of the reading, after the next card's answer
unfoldable pub answer : List Entry → List Reading → ℕ → Result Entry DeckFault → Result (List Entry) DeckRefusal
answer es cs n (Ok e) = read_cards (e ∷ es) cs
answer es cs n (Err f) = Err (refused f n)

pub card-taken : (es : List Entry) (c : Reading) (cs : List Reading) (e : Entry) → card_after es c ≡ Ok e → read_cards es (c ∷ cs) ≡ read_cards (e ∷ es) cs
unfolding answer
card-taken es c cs e h = ap (answer es cs (length es + 1)) h

-- a card in turn, with its numbers, that passes its questions
pub card-passes : (es : List Entry) (k : Keyword) (ns : List ℕ) → follows (last_turn es) (turn_of k) ≡ true → entry_asked es (entry_of k ns) ≡ Ok tt → card_after es (card k (Some ns)) ≡ Ok (entry_of k ns)
card-passes es k ns turn passes = rw (turn, passes)

pub from-turn : (b : Bool) (x : Result Entry DeckFault) (f : DeckFault) (e : Entry) → cond b x (Err f) ≡ Ok e → (b ≡ true) × (x ≡ Ok e)
from-turn true x f e h = (refl, h)
from-turn false x f e h = absurd cc

pub from-entered : (d : Entry) (r : Answer DeckFault) (e : Entry) → entered d r ≡ Ok e → (d ≡ e) × (r ≡ Ok tt)
from-entered d (Ok u) e h = (cc, refl)
from-entered d (Err f) e h = absurd cc

pub from-ended : (b : Bool) (es fs : List Entry) (f : DeckRefusal) → cond b (Ok es) (Err f) ≡ Ok fs → (b ≡ true) × (es ≡ fs)
from-ended true es fs f h = (refl, cc)
from-ended false es fs f h = absurd cc

-- Questions that were answered yes.

pub from-asked : {Fault : Type 0} (b : Bool) (f : Fault) → asked b f ≡ Ok tt → b ≡ true
from-asked true f h = refl
from-asked false f h = absurd cc

pub from_then : {Fault : Type 0} (a b : Answer Fault) → and_then a b ≡ Ok tt → (a ≡ Ok tt) × (b ≡ Ok tt)
from_then (Ok u) b h = (refl, h)
from_then (Err f) b h = absurd cc

pub from-study : (a : Answer NetworkFault) → to_study a ≡ Ok tt → a ≡ Ok tt
from-study (Ok u) h = refl
from-study (Err f) h = absurd cc

pub from-deck : (a : Answer StudyFault) → to_deck a ≡ Ok tt → a ≡ Ok tt
from-deck (Ok u) h = refl
from-deck (Err f) h = absurd cc
