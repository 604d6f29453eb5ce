-- What a deck says: the entries of its cards, or the first refusal.
use Rattle.std.specs.Prelude.{ℕ, zero, suc, ◌+◌, ◌-◌, Bool, cond, ◌&&◌, List, [], ◌∷◌, ◌++◌, length, drop, Some, None, Ok, Err, Option, Result, ◌==◌, nat_le, nat_lt, slice_index}
use Rattle.refusals.specs.declared.network_fault.NetworkFault.{NetworkFault}
use Rattle.refusals.specs.declared.study_fault.StudyFault.{StudyFault}
use Rattle.refusals.specs.declared.study_fault.StudyFault.TheVariants.{Network}
use Rattle.refusals.specs.declared.deck_fault.DeckFault.{DeckFault}
use Rattle.refusals.specs.declared.deck_fault.DeckFault.TheVariants.{Study, Table, Bytes, Word, Turn, Numbers, Mark}
use Rattle.refusals.specs.declared.deck_fault.DeckRefusal.{DeckRefusal}
use Rattle.network.specs.Questions.{Answer, asked, and_then, nodes_asked, count_asked, row_asked, head_asked}
use Rattle.network.specs.declared.branch.TableRow.{TableRow}
use Rattle.network.specs.declared.branch.Condition.{Condition}
use Rattle.network.specs.declared.branch.Condition.TheVariants.{Able, Failed, Working}
use Rattle.deck.specs.Cards.{Keyword, nodes, branch, failed, working, door, Reading, unknown, card, cards}
use Rattle.deck.specs.declared.reader.Deck.{Deck}

-- what a card enters: the node count and the head, a branch, a mark on branch k, a door
pub data Entry : Type 0 where
  nodes_are : ℕ → ℕ → Entry
  branch_is : TableRow → Entry
  mark_is : ℕ → Condition → Entry
  door_is : ℕ → Entry

-- a branch comes able to fail
abbrev pub row_of : List ℕ → TableRow
row_of ns = record { from = slice_index ns 0; to = slice_index ns 1; mantissa = slice_index ns 2; exponent = slice_index ns 3; condition = Able }

abbrev pub entry_of : Keyword → List ℕ → Entry
entry_of nodes ns = nodes_are (slice_index ns 0) (slice_index ns 1)
entry_of branch ns = branch_is (row_of ns)
entry_of failed ns = mark_is (slice_index ns 0) Failed
entry_of working ns = mark_is (slice_index ns 0) Working
entry_of door ns = door_is (slice_index ns 0)

-- The network of the entries so far. The last entry comes first, and entry number i, counted from 1, is that of line i.

abbrev pub nodes_in : List Entry → ℕ
nodes_in [] = 0
nodes_in (nodes_are n h ∷ es) = n
nodes_in (branch_is b ∷ es) = nodes_in es
nodes_in (mark_is k c ∷ es) = nodes_in es
nodes_in (door_is d ∷ es) = nodes_in es

abbrev pub head_in : List Entry → ℕ
head_in [] = 0
head_in (nodes_are n h ∷ es) = h
head_in (branch_is b ∷ es) = head_in es
head_in (mark_is k c ∷ es) = head_in es
head_in (door_is d ∷ es) = head_in es

abbrev pub with_condition : Condition → TableRow → TableRow
with_condition c b = record { from = b.from; to = b.to; mantissa = b.mantissa; exponent = b.exponent; condition = c }

-- row k with another condition
abbrev pub marked : ℕ → Condition → List TableRow → List TableRow
marked k c [] = []
marked zero c (b ∷ bs) = with_condition c b ∷ bs
marked (suc k) c (b ∷ bs) = b ∷ marked k c bs

-- the branches in their order, with their marks
abbrev pub branches_in : List Entry → List TableRow
branches_in [] = []
branches_in (nodes_are n h ∷ es) = branches_in es
branches_in (branch_is b ∷ es) = branches_in es ++ b ∷ []
branches_in (mark_is k c ∷ es) = marked k c (branches_in es)
branches_in (door_is d ∷ es) = branches_in es

-- the line of the first door, or 0
abbrev pub first_door : List Entry → ℕ
first_door [] = 0
first_door (nodes_are n h ∷ es) = first_door es
first_door (branch_is b ∷ es) = first_door es
first_door (mark_is k c ∷ es) = first_door es
first_door (door_is d ∷ es) = cond (first_door es == 0) (length es + 1) (first_door es)

-- The order of the cards: NODES, then BRANCH, then FAILED and WORKING, then DOOR.

abbrev pub turn_of : Keyword → ℕ
turn_of nodes = 1
turn_of branch = 2
turn_of failed = 3
turn_of working = 3
turn_of door = 4

-- the turn of the last card, 0 before the first
abbrev pub last_turn : List Entry → ℕ
last_turn [] = 0
last_turn (nodes_are n h ∷ es) = 1
last_turn (branch_is b ∷ es) = 2
last_turn (mark_is k c ∷ es) = 3
last_turn (door_is d ∷ es) = 4

-- one NODES card first, then at least one BRANCH, and from then on no card of an earlier turn
abbrev pub follows : ℕ → ℕ → Bool
follows last next = cond (nat_lt last 2) (next == last + 1) (nat_le last next)

-- What is asked of an entry. A fault of a layer below is kept as it is.

abbrev pub to_study : Answer NetworkFault → Answer StudyFault
to_study (Ok u) = Ok u
to_study (Err f) = Err (Network f)

abbrev pub to_deck : Answer StudyFault → Answer DeckFault
to_deck (Ok u) = Ok u
to_deck (Err f) = Err (Study f)

-- 2 to 32 nodes, and then a head among them
abbrev pub plan_asked : ℕ → ℕ → Answer StudyFault
plan_asked n h = and_then (to_study (nodes_asked n)) (head_asked n h)

-- NODES: refusals 1 and 5. BRANCH: 2 for the 65th, then 3 for its ends, then 4 for its rating. FAILED and WORKING: 19 where
-- the branch is not there. Of a door nothing is asked.
abbrev pub entry_asked : List Entry → Entry → Answer DeckFault
entry_asked es (nodes_are n h) = to_deck (plan_asked n h)
entry_asked es (branch_is b) = to_deck (to_study (and_then (count_asked (length (branches_in es) + 1)) (row_asked (nodes_in es) (length (branches_in es)) b)))
entry_asked es (mark_is k c) = asked (nat_lt k (length (branches_in es))) Mark
entry_asked es (door_is d) = Ok tt

abbrev pub entered : Entry → Answer DeckFault → Result Entry DeckFault
entered e (Ok u) = Ok e
entered e (Err f) = Err f

-- are the numbers there, and does the entry that they make pass its questions?
abbrev pub counted : List Entry → (List ℕ → Entry) → Option (List ℕ) → Result Entry DeckFault
counted es make None = Err Numbers
counted es make (Some ns) = entered (make ns) (entry_asked es (make ns))

-- a card after the entries es: refusal 16 where its word is none of the five, then 17 out of turn, then 18 for its numbers
abbrev pub card_after : List Entry → Reading → Result Entry DeckFault
card_after es unknown = Err Word
card_after es (card k ns) = cond (follows (last_turn es) (turn_of k)) (counted es (entry_of k) ns) (Err Turn)

-- Card by card, the first refusal decides, and its line is that card's. A deck that ends before a door is refused, 17, at the
-- line after its last.

abbrev pub refused : DeckFault → ℕ → DeckRefusal
refused f line = record { fault = f; line = line }

abbrev pub ended : List Entry → Result (List Entry) DeckRefusal
ended es = cond (last_turn es == 4) (Ok es) (Err (refused Turn (length es + 1)))

abbrev pub read_cards : List Entry → List Reading → Result (List Entry) DeckRefusal
read_cards es [] = ended es
read_cards es (c ∷ cs) = elim (card_after es c) [ Ok e ↦ read_cards (e ∷ es) cs | Err f ↦ Err (refused f (length es + 1)) ]

abbrev pub ends_line : List ℕ → Bool
ends_line bs = slice_index bs (length bs - 1) == 10

-- refusal 14 where the table has fewer than 64 places; 15 over 65,536 bytes, or where the last of them is not byte 10
abbrev pub bytes_asked : ℕ → List ℕ → Answer DeckFault
bytes_asked places bs = and_then (asked (nat_le 64 places) Table) (asked (nat_le (length bs) 65536 && ends_line bs) Bytes)

abbrev pub read_if : Answer DeckFault → List Reading → Result (List Entry) DeckRefusal
read_if (Ok u) cs = read_cards [] cs
read_if (Err f) cs = Err (refused f 0)

-- the entries of a deck, for a table of so many places: beyond those two questions its cards alone decide
abbrev pub read_bytes : ℕ → List ℕ → Result (List Entry) DeckRefusal
read_bytes places bs = read_if (bytes_asked places bs) (cards bs)

-- The answer, and the table afterwards: written only where the deck is accepted, and only as far as there are branches.

abbrev pub deck_of : List Entry → Deck
deck_of es = record { nodes = nodes_in es; head = head_in es; branches = length (branches_in es); door_line = first_door es }

abbrev pub deck_read : Result (List Entry) DeckRefusal → Result Deck DeckRefusal
deck_read (Ok es) = Ok (deck_of es)
deck_read (Err f) = Err f

abbrev pub table_after : Result (List Entry) DeckRefusal → List TableRow → List TableRow
table_after (Ok es) table = branches_in es ++ drop (length (branches_in es)) table
table_after (Err f) table = table
