-- The questions of a deck, in order, each with its number, layer, place and line.
use Rattle.std.specs.Prelude.{ℕ, ◌+◌, Bool, true, false, cond, ◌&&◌, List, [], ◌∷◌, ◌++◌, map, length, Some, None, Ok, Err, Option, Result, ◌==◌, nat_le, nat_lt}
use Rattle.refusals.specs.Questions.{Question}
use Rattle.refusals.specs.Refusals.{deck_refusal}
use Rattle.refusals.specs.declared.layer.Layer.TheVariants.{Deck}
use Rattle.refusals.specs.declared.layer.Refusal.{Refusal}
use Rattle.refusals.specs.declared.deck_fault.DeckRefusal.{DeckRefusal}
use Rattle.network.specs.Refusing.{node_count_question, branch_count_question, ends_question, rating_question, head_question}
use Rattle.deck.specs.Cards.{Reading, unknown, card, cards}
use Rattle.deck.specs.Decks.{Entry, nodes_are, branch_is, mark_is, door_is, entry_of, nodes_in, branches_in, last_turn, follows, turn_of, ends_line}

abbrev pub deck_question : ℕ → Bool → Question
deck_question n holds = record { number = n; layer = Deck; place = 0; yes = holds }

-- has the table 64 places, and is the deck at most 65,536 bytes long and ended by byte 10?
abbrev pub bytes_questions : ℕ → List ℕ → List Question
bytes_questions places bs = deck_question 14 (nat_le 64 places) ∷ deck_question 15 (nat_le (length bs) 65536 && ends_line bs) ∷ []

-- of what a card enters, after the entries es
abbrev pub entry_questions : List Entry → Entry → List Question
entry_questions es (nodes_are n h) = node_count_question n ∷ head_question n h ∷ []
entry_questions es (branch_is b) = branch_count_question (length (branches_in es) + 1) ∷ ends_question (nodes_in es) (length (branches_in es)) b ∷ rating_question (length (branches_in es)) b.mantissa b.exponent ∷ []
entry_questions es (mark_is k c) = deck_question 19 (nat_lt k (length (branches_in es))) ∷ []
entry_questions es (door_is d) = []

-- of a line: does it begin with one of the five words, is its card in turn, has it exactly its numbers, and then the entry's own
abbrev pub line_questions : List Entry → Reading → List Question
line_questions es unknown = deck_question 16 false ∷ []
line_questions es (card k None) = deck_question 16 true ∷ deck_question 17 (follows (last_turn es) (turn_of k)) ∷ deck_question 18 false ∷ []
line_questions es (card k (Some ns)) = deck_question 16 true ∷ deck_question 17 (follows (last_turn es) (turn_of k)) ∷ deck_question 18 true ∷ entry_questions es (entry_of k ns)

-- what a line enters, where it has its numbers
abbrev pub entry_on : Reading → Option Entry
entry_on unknown = None
entry_on (card k None) = None
entry_on (card k (Some ns)) = Some (entry_of k ns)

-- questions about a line
abbrev pub on_line : ℕ → List Question → List (ℕ × Question)
on_line n qs = map (λ q. (n, q)) qs

-- line by line, and at the end, on the line after the last: is there a door?
abbrev pub lines_questions : List Entry → List Reading → List (ℕ × Question)
lines_questions es [] = on_line (length es + 1) (deck_question 17 (last_turn es == 4) ∷ [])
lines_questions es (c ∷ cs) = on_line (length es + 1) (line_questions es c) ++ elim (entry_on c) [ None ↦ [] | Some e ↦ lines_questions (e ∷ es) cs ]

-- of a deck and a table of so many places
abbrev pub deck_questions : ℕ → List ℕ → List (ℕ × Question)
deck_questions places bs = on_line 0 (bytes_questions places bs) ++ lines_questions [] (cards bs)

-- the line and the refusal of the first question that is answered no
abbrev pub first_no_on : List (ℕ × Question) → Option (ℕ × Refusal)
first_no_on [] = None
first_no_on (q ∷ qs) = cond q.1.yes (first_no_on qs) (Some (q.0, record { number = q.1.number; layer = q.1.layer; place = q.1.place }))

-- the line and the refusal of an answer
abbrev pub refusal_on : {T : Type 0} → Result T DeckRefusal → Option (ℕ × Refusal)
refusal_on (Ok x) = None
refusal_on (Err r) = Some (r.line, deck_refusal r.fault)
