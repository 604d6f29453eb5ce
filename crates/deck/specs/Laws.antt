-- What a caller may rely on, in terms of whole decks.
use Rattle.std.specs.Prelude.{◌≡◌, ℕ, ◌+◌, ◌^◌, ◌<◌, ◌≤◌, List, [], ◌∷◌, ◌++◌, map, length, take, drop, Some, Ok, Err, decimal, Result, ◌≢◌}
use Rattle.std.specs.List.{slice_get, AllByRecursion}
use Rattle.refusals.specs.declared.deck_fault.DeckRefusal.{DeckRefusal}
use Rattle.network.specs.declared.branch.TableRow.{TableRow}
use Rattle.network.specs.declared.branch.Condition.{Condition}
use Rattle.network.specs.declared.branch.Condition.TheVariants.{Able, Failed, Working}
use Rattle.network.specs.Questions.{list_asked}
use Rattle.deck.specs.Cards.{Keyword, nodes, branch, failed, working, door, spelled, cards}
use Rattle.deck.specs.Decks.{Entry, nodes_in, branches_in, with_condition, marked, bytes_asked, read_bytes, deck_read, table_after}
use Rattle.deck.specs.Doorways.{doors_in, doors_of}
use Rattle.deck.specs.declared.reader.Deck.{Deck}

-- a network with its head, its marks in their order (branch and condition) and its doors
pub record Plan : Type 0 where
  pub nodes : ℕ
  pub head : ℕ
  pub rows : List TableRow
  pub marks : List (ℕ × Condition)
  pub doors : List ℕ

-- a branch among n nodes: its ends are nodes, its rating is legal, and it is able to fail
pub record SoundRow (n : ℕ) (row : TableRow) : Type 0 where
  pub from_is_a_node : row.from < n
  pub to_is_a_node : row.to < n
  pub mantissa_is_at_most_a_billion : row.mantissa ≤ 1000000000
  pub exponent_is_9_or_more : 9 ≤ row.exponent
  pub exponent_is_18_or_less : row.exponent ≤ 18
  pub it_is_able_to_fail : row.condition ≡ Able

-- a mark, failed or working, on one of b branches
pub record SoundMark (b : ℕ) (mark : ℕ × Condition) : Type 0 where
  pub the_branch_is_there : mark.0 < b
  pub it_marks : mark.1 ≡ Able → ⊥

-- what a plan must be for a deck to describe it
pub record Sound (plan : Plan) : Type 0 where
  pub two_nodes_at_least : 2 ≤ plan.nodes
  pub at_most_32_nodes : plan.nodes ≤ 32
  pub the_head_is_a_node : plan.head < plan.nodes
  pub some_branch : 1 ≤ length plan.rows
  pub at_most_64_branches : length plan.rows ≤ 64
  pub each_branch_is_sound : AllByRecursion (SoundRow plan.nodes) plan.rows
  pub each_mark_is_sound : AllByRecursion (SoundMark (length plan.rows)) plan.marks
  pub some_door : 1 ≤ length plan.doors
  pub each_door_fits_32_bits : AllByRecursion (λ d. d < 2 ^ 32) plan.doors

-- The text of a plan: a line for each card, with its word, each number after a space, and byte 10.

abbrev pub nodes_card : ℕ → ℕ → Keyword × List ℕ
nodes_card n h = (nodes, n ∷ h ∷ [])

abbrev pub branch_card : TableRow → Keyword × List ℕ
branch_card row = (branch, row.from ∷ row.to ∷ row.mantissa ∷ row.exponent ∷ [])

-- a sound plan has no mark Able
abbrev pub mark_word : Condition → Keyword
mark_word Able = working
mark_word Failed = failed
mark_word Working = working

abbrev pub mark_card : ℕ × Condition → Keyword × List ℕ
mark_card mark = (mark_word mark.1, mark.0 ∷ [])

abbrev pub door_card : ℕ → Keyword × List ℕ
door_card d = (door, d ∷ [])

abbrev pub plan_cards : Plan → List (Keyword × List ℕ)
plan_cards plan = nodes_card plan.nodes plan.head ∷ (map branch_card plan.rows ++ (map mark_card plan.marks ++ map door_card plan.doors))

abbrev pub spaced : List ℕ → List ℕ
spaced [] = []
spaced (n ∷ ns) = 32 ∷ (decimal n ++ spaced ns)

abbrev pub text : List (Keyword × List ℕ) → List ℕ
text [] = []
text (c ∷ cs) = spelled c.0 ++ (spaced c.1 ++ (10 ∷ text cs))

unfoldable pub written : Plan → List ℕ
written plan = text (plan_cards plan)

-- The table of a plan: its branches with the marks put on them in order.

abbrev pub applied : List (ℕ × Condition) → List TableRow → List TableRow
applied [] rows = rows
applied (mark ∷ marks) rows = applied marks (marked mark.0 mark.1 rows)

unfoldable pub described : Plan → List TableRow
described plan = applied plan.marks plan.rows

-- no mark of the list is on branch k
abbrev pub Unmarked : ℕ → List (ℕ × Condition) → Type 0
Unmarked k marks = AllByRecursion (λ mark. mark.0 ≢ k) marks

abbrev pub plan_deck : Plan → Deck
plan_deck plan = record { nodes = plan.nodes; head = plan.head; branches = length plan.rows; door_line = length plan.rows + length plan.marks + 2 }

-- A plan comes back from its deck: the answer, and the table before and after.
pub record ComesBack (plan : Plan) (table : List TableRow) (answer : Result Deck DeckRefusal) (after : List TableRow) : Type 0 where
  pub it_is_accepted : answer ≡ Ok (plan_deck plan)
  pub its_branches_fill_the_table : after ≡ described plan ++ drop (length plan.rows) table
  pub every_branch_is_there : length (described plan) ≡ length plan.rows
  pub the_last_mark_holds : (k : ℕ) (c : Condition) (earlier later : List (ℕ × Condition)) → plan.marks ≡ earlier ++ (k, c) ∷ later → Unmarked k later
      → (row : TableRow) → slice_get plan.rows k ≡ Some row → slice_get (described plan) k ≡ Some (with_condition c row)
  pub an_unmarked_branch_stays : (k : ℕ) → Unmarked k plan.marks → slice_get (described plan) k ≡ slice_get plan.rows k

-- the bytes are cards of a plan, as it is written or with zeros in front of its numbers
abbrev pub Describes : List ℕ → Plan → Type 0
Describes bs plan = cards bs ≡ cards (written plan)

-- what read_deck promises of the bytes, the table before, the answer and the table after
pub record DeckLaws (bs : List ℕ) (table : List TableRow) (answer : Result Deck DeckRefusal) (after : List TableRow) : Type 0 where
  pub written_decks_come_back : (plan : Plan) → Sound plan → bs ≡ written plan → length bs ≤ 65536 → 64 ≤ length table → ComesBack plan table answer after
  pub so_do_decks_with_their_cards : (plan : Plan) → Sound plan → Describes bs plan → bytes_asked (length table) bs ≡ Ok tt → ComesBack plan table answer after
  pub nothing_else_is_accepted : (deck : Deck) → answer ≡ Ok deck → (plan : Plan) × Sound plan × Describes bs plan
  pub a_list_takes_its_branches : (es : List Entry) → read_bytes (length table) bs ≡ Ok es → list_asked (nodes_in es) (branches_in es) ≡ Ok tt
  pub same_cards_same_answer : (others : List ℕ) → cards others ≡ cards bs → bytes_asked (length table) others ≡ bytes_asked (length table) bs
      → (answer ≡ deck_read (read_bytes (length table) others)) × (after ≡ table_after (read_bytes (length table) others) table)
  pub the_lines_up_to_a_refusal_decide : (refusal : DeckRefusal) → answer ≡ Err refusal → (others : List ℕ) → bytes_asked (length table) others ≡ bytes_asked (length table) bs
      → take refusal.line (cards others) ≡ take refusal.line (cards bs) → answer ≡ deck_read (read_bytes (length table) others)
  pub a_refusal_leaves_the_table : (refusal : DeckRefusal) → answer ≡ Err refusal → after ≡ table

-- what Doors::new promises of the bytes: the doors that it will give
pub record DoorLaws (bs : List ℕ) : Type 0 where
  pub doors_of_an_accepted_deck : (places : ℕ) (es : List Entry) → read_bytes places bs ≡ Ok es → doors_in (cards bs) ≡ doors_of es
  pub doors_of_a_written_plan : (plan : Plan) → Sound plan → bs ≡ written plan → doors_in (cards bs) ≡ plan.doors
  pub doors_of_its_cards : (plan : Plan) → Sound plan → Describes bs plan → doors_in (cards bs) ≡ plan.doors
