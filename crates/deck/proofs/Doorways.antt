-- The doors of the lines and those of the entries.
use Rattle.std.proofs.Common.{◌≡◌, ℕ, ◌+◌, List, [], ◌∷◌, ◌++◌, length, Some, None, Ok, Err, Option, Result, sym, refl, ap, ◌∙◌, append_assoc, append-nil}
use Rattle.refusals.specs.declared.deck_fault.DeckFault.{DeckFault}
use Rattle.network.specs.Questions.{Answer}
use Rattle.deck.specs.Words.{words}
use Rattle.deck.specs.Cards.{Keyword, nodes, branch, failed, working, door, Reading, unknown, card, card_on, cards}
use Rattle.deck.specs.Decks.{Entry, nodes_are, branch_is, mark_is, door_is, entry_of, card_after, counted, entry_asked, read_cards, read_bytes, read_if, bytes_asked}
use Rattle.deck.specs.Doorways.{door_on, before, doors_in, doors_of}
use Rattle.deck.specs.Drafts.{Untitled}
use Rattle.deck.proofs.Steps.{answer, from-turn, from-entered, from-ended}
use Rattle.deck.proofs.Titles.{untitled-card}

-- the door of an entry
abbrev door_of : Entry → Option ℕ
door_of (nodes_are n h) = None
door_of (branch_is b) = None
door_of (mark_is k c) = None
door_of (door_is d) = Some d

doors-step : (es : List Entry) (e : Entry) (ds : List ℕ) → doors_of (e ∷ es) ++ ds ≡ doors_of es ++ before (door_of e) ds
doors-step es (nodes_are n h) ds = refl
doors-step es (branch_is b) ds = refl
doors-step es (mark_is k c) ds = refl
doors-step es (door_is d) ds = append_assoc (doors_of es) (d ∷ []) ds

entry-door : (k : Keyword) (ns : List ℕ) → door_on (card k (Some ns)) ≡ door_of (entry_of k ns)
entry-door nodes ns = refl
entry-door branch ns = refl
entry-door failed ns = refl
entry-door working ns = refl
entry-door door ns = refl

counted-door : (es : List Entry) (k : Keyword) (o : Option (List ℕ)) (e : Entry) → counted es (entry_of k) o ≡ Ok e → door_on (card k o) ≡ door_of e
counted-door es k None e h = absurd cc
counted-door es k (Some ns) e h = entry-door k ns ∙ ap door_of (from-entered (entry_of k ns) (entry_asked es (entry_of k ns)) e h).0

card-door : (es : List Entry) (c : Reading) (e : Entry) → card_after es c ≡ Ok e → door_on c ≡ door_of e
card-door es unknown e h = absurd cc
card-door es (card k ns) e h = counted-door es k ns e (from-turn _ _ _ e h).1

step : (c : Reading) (cs : List Reading) → ((es fs : List Entry) → read_cards es cs ≡ Ok fs → doors_of fs ≡ doors_of es ++ doors_in cs) → (es fs : List Entry) (o : Result Entry DeckFault) → card_after es c ≡ o → answer es cs (length es + 1) o ≡ Ok fs → doors_of fs ≡ doors_of es ++ doors_in (c ∷ cs)
unfolding answer
step c cs rest es fs (Ok e) p h = rest (e ∷ es) fs h ∙ doors-step es e (doors_in cs) ∙ ap (λ o. doors_of es ++ before o (doors_in cs)) (sym (card-door es c e p))
step c cs rest es fs (Err f) p h = absurd cc

cards-doors : (cs : List Reading) (es fs : List Entry) → read_cards es cs ≡ Ok fs → doors_of fs ≡ doors_of es ++ doors_in cs
unfolding answer
cards-doors [] es fs h = ap doors_of (sym (from-ended _ es fs _ h).1) ∙ sym (append-nil (doors_of es))
cards-doors (c ∷ cs) es fs h = step c cs (cards-doors cs) es fs (card_after es c) refl h

read-doors : (r : Answer DeckFault) (cs : List Reading) (es : List Entry) → read_if r cs ≡ Ok es → doors_in cs ≡ doors_of es
read-doors (Ok u) cs es h = sym (cards-doors cs [] es h)
read-doors (Err f) cs es h = absurd cc

pub doors-agree : (bs : List ℕ) (places : ℕ) (es : List Entry) → read_bytes places bs ≡ Ok es → doors_in (cards bs) ≡ doors_of es
doors-agree bs places es h = read-doors (bytes_asked places bs) (cards bs) es h

pub untitled-door : (bs : List ℕ) → Untitled bs → None ≡ door_on (card_on (words bs))
untitled-door bs un = sym (ap door_on (untitled-card bs un))
