-- The reader's inner bookkeeping: how it stands between two lines. Only private contracts cite it,
-- so what a deck means can be read without it.
use Rattle.std.specs.Prelude.{◌≡◌, ℕ, zero, suc, ◌+◌, ◌<◌, ◌≤◌, true, cond, List, ◌∷◌, ◌++◌, length, Some, None, Ok, Err, Option, Result, ◌==◌, slice_index}
use Rattle.refusals.specs.declared.deck_fault.DeckFault.{DeckFault}
use Rattle.refusals.specs.declared.deck_fault.DeckFault.TheVariants.{Turn}
use Rattle.refusals.specs.declared.deck_fault.DeckRefusal.{DeckRefusal}
use Rattle.arrayvec.specs.ArrayVec.{array_vec_len}
use Rattle.network.specs.Questions.{Answer}
use Rattle.network.specs.declared.branch.Condition.{Condition}
use Rattle.deck.specs.Words.{words, ends_word, numbers_in}
use Rattle.deck.specs.Cards.{Keyword, nodes, branch, failed, working, door, spelled, numbers_for, card_on}
use Rattle.deck.specs.Cards as cards
use Rattle.deck.specs.Decks.{Entry, mark_is, last_turn, nodes_in, head_in, branches_in, first_door, deck_of, follows, counted, card_after}
use Rattle.deck.specs.declared.card.Card.{Card}
use Rattle.deck.specs.declared.card.Card.TheVariants as cases
use Rattle.deck.specs.declared.draft.Draft.{Draft}
use Rattle.deck.specs.declared.draft.Section.{Section}
use Rattle.deck.specs.declared.draft.Section.TheVariants as sections
use Rattle.deck.specs.declared.reader.Deck.{Deck}

-- Cards: the parts of the enum's cases, and the line that a case was made from.

abbrev pub keyword_of : Card → Keyword
keyword_of (cases.Nodes line operands) = nodes
keyword_of (cases.Branch line operands) = branch
keyword_of (cases.Failed line operands) = failed
keyword_of (cases.Working line operands) = working
keyword_of (cases.Door line operands) = door

abbrev pub numbers_of : Card → List ℕ
numbers_of (cases.Nodes line operands) = operands.text.now
numbers_of (cases.Branch line operands) = operands.text.now
numbers_of (cases.Failed line operands) = operands.text.now
numbers_of (cases.Working line operands) = operands.text.now
numbers_of (cases.Door line operands) = operands.text.now

abbrev pub line_of : Card → ℕ
line_of (cases.Nodes line operands) = line
line_of (cases.Branch line operands) = line
line_of (cases.Failed line operands) = line
line_of (cases.Working line operands) = line
line_of (cases.Door line operands) = line

-- the bytes are the word k and then rest
pub record Begins (k : Keyword) (bs rest : List ℕ) : Type 0 where
  pub whole : bs ≡ spelled k ++ rest
  pub ends : ends_word rest ≡ true

abbrev pub Lacks : Keyword → List ℕ → Type 0
Lacks k bs = (rest : List ℕ) → Begins k bs rest → ⊥

-- the bytes are the card's word and its numbers
pub record Titled (bs : List ℕ) (line : ℕ) (found : Card) : Type 0 where
  pub begins : Begins (keyword_of found) bs (numbers_of found)
  pub at : line_of found ≡ line

-- none of the five words
abbrev pub Untitled : List ℕ → Type 0
Untitled bs = (k : Keyword) → Lacks k bs

-- Drafts: how a draft stands for the entries so far.

-- the turn of a section
abbrev pub rank : Section → ℕ
rank sections.Start = 0
rank sections.Nodes = 1
rank sections.Branches = 2
rank sections.Marks = 3
rank sections.Doors = 4

-- a number, where 0 is none
abbrev pub nonzero : ℕ → Option ℕ
nonzero zero = None
nonzero (suc n) = Some (suc n)

pub record Holds (d : Draft) (es : List Entry) : Type 0 where
  pub section : rank d.section ≡ last_turn es
  pub nodes : d.nodes ≡ nodes_in es
  pub head : d.head ≡ head_in es
  pub few : array_vec_len d.rows ≤ 64
  pub rows : d.rows.items ≡ branches_in es
  pub door : d.door ≡ nonzero (first_door es)
  pub shut : last_turn es ≤ 3 → first_door es ≡ 0
  pub opened : last_turn es ≡ 4 → 0 < first_door es

-- the deck of the entries, or its refusal where it ends before a door
abbrev pub deck_held : List Entry → Result Deck DeckFault
deck_held es = cond (last_turn es == 4) (Ok (deck_of es)) (Err Turn)

-- the answer r and the draft afterwards are those of the next line
abbrev pub Next : List Entry → Result Entry DeckFault → Answer DeckFault → Draft → Type 0
Next es (Ok e) r after = (r ≡ Ok tt) × Holds after (e ∷ es)
Next es (Err f) r after = r ≡ Err f

-- a card, on whatever line
abbrev pub TakesAnywhere : Draft → Keyword → List (List ℕ) → Answer DeckFault → Draft → Type 0
TakesAnywhere before k ws r after = (es : List Entry) → Holds before es → Next es (card_after es (cards.card k (numbers_in (numbers_for k) ws))) r after

-- a card on the next line
abbrev pub Takes : Draft → Keyword → ℕ → List (List ℕ) → Answer DeckFault → Draft → Type 0
Takes before k line ws r after = (es : List Entry) → Holds before es → line ≡ length es + 1 → Next es (card_after es (cards.card k (numbers_in (numbers_for k) ws))) r after

-- the bytes of the next line
abbrev pub TakesLine : Draft → ℕ → List ℕ → Answer DeckFault → Draft → Type 0
TakesLine before line bs r after = (es : List Entry) → Holds before es → line ≡ length es + 1 → Next es (card_after es (card_on (words bs))) r after

-- a mark, on whatever line: the cards FAILED and WORKING are cases of it
abbrev pub mark_after : List Entry → Condition → List (List ℕ) → Result Entry DeckFault
mark_after es c ws = cond (follows (last_turn es) 3) (counted es (λ ns. mark_is (slice_index ns 0) c) (numbers_in 1 ws)) (Err Turn)

abbrev pub TakesMark : Draft → Condition → List (List ℕ) → Answer DeckFault → Draft → Type 0
TakesMark before c ws r after = (es : List Entry) → Holds before es → Next es (mark_after es c ws) r after

-- the deck and a draft that holds the entries of all lines, or their refusal
abbrev pub ReadTo : Result (List Entry) DeckRefusal → Result (Deck × Draft) DeckRefusal → Type 0
ReadTo (Ok es) (Ok r) = (r.0 ≡ deck_of es) × Holds r.1 es
ReadTo (Ok es) (Err f) = ⊥
ReadTo (Err e) (Ok r) = ⊥
ReadTo (Err e) (Err f) = f ≡ e
