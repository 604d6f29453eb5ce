-- The laws of the public calls.
use Rattle.std.proofs.Common.{◌≡◌, ℕ, ◌≤◌, leb, List, [], ◌∷◌, ◌++◌, map, length, drop, Ok, Err, Result, sym, refl, ap, ◌∙◌}
use Rattle.std.specs.List.{slice_get}
use Rattle.std.proofs.lemmas.Bool.{le-leb, eq-eqb, and_from}
use Rattle.refusals.specs.declared.deck_fault.DeckRefusal.{DeckRefusal}
use Rattle.network.specs.declared.branch.TableRow.{TableRow}
use Rattle.network.specs.declared.branch.Condition.{Condition}
use Rattle.network.specs.declared.branch.Condition.TheVariants.{Able, Failed, Working}
use Rattle.deck.specs.Cards.{Reading, cards}
use Rattle.deck.specs.Decks.{Entry, branches_in, ends_line, bytes_asked, read_if, read_cards, read_bytes, deck_read, table_after}
use Rattle.deck.specs.Doorways.{doors_in}
use Rattle.deck.specs.Laws.{Plan, Sound, nodes_card, branch_card, mark_card, door_card, plan_cards, written, applied, described, ComesBack, Describes, DeckLaws, DoorLaws}
use Rattle.deck.specs.declared.reader.Deck.{Deck}
use Rattle.deck.proofs.Doorways.{doors-agree}
use Rattle.deck.proofs.Texts.{shown, cards-text, ends-text}
use Rattle.deck.proofs.Marks.{length-applied, unmarked-stays, last-holds}
use Rattle.deck.proofs.Plans.{plan-back, plan-writable, shown-parts}
use Rattle.deck.proofs.Decided.{up-to-the-line, table_kept}
use Rattle.deck.proofs.Only.{some-plan}
use Rattle.deck.proofs.Accepted.{accepted-is-taken}
use Rattle.deck.specs.Refusing.{deck_questions, first_no_on, refusal_on}
use Rattle.deck.proofs.Firsts.{deck-first}

-- the cards of a sound plan's text
written-cards : (plan : Plan) → Sound plan → cards (written plan) ≡ map shown (plan_cards plan)
unfolding written
written-cards plan s = cards-text (plan_cards plan) (plan-writable plan s)

-- A deck of a sound plan.

module _ (plan : Plan) (s : Sound plan) (bs : List ℕ) (table : List TableRow) (is : Describes bs plan) (asks : bytes_asked (length table) bs ≡ Ok tt) where
  read : read_bytes (length table) bs ≡ Ok (plan-back plan s).fs
  read = ap (λ r. read_if r (cards bs)) asks ∙ ap (read_cards []) (is ∙ written-cards plan s) ∙ (plan-back plan s).same

  branches : branches_in (plan-back plan s).fs ++ drop (length (branches_in (plan-back plan s).fs)) table ≡ applied plan.marks plan.rows ++ drop (length plan.rows) table
  branches =
      ap (λ bs. bs ++ drop (length bs) table) (plan-back plan s).rows
      ∙ ap (λ n. applied plan.marks plan.rows ++ drop n table) (length-applied plan.marks plan.rows)

  pub comes_back : (answer : Result Deck DeckRefusal) (after : List TableRow) → answer ≡ deck_read (read_bytes (length table) bs) → after ≡ table_after (read_bytes (length table) bs) table → ComesBack plan table answer after
  unfolding described
  comes_back answer after a t = record {
    it_is_accepted = a ∙ ap deck_read read ∙ ap Ok (plan-back plan s).deck;
    its_branches_fill_the_table = t ∙ ap (λ r. table_after r table) read ∙ branches;
    every_branch_is_there = length-applied plan.marks plan.rows;
    the_last_mark_holds = λ k c earlier later e un row at. ap (λ marks. slice_get (applied marks plan.rows) k) e ∙ last-holds k c earlier later un plan.rows row at;
    an_unmarked_branch_stays = λ k un. unmarked-stays k plan.marks plan.rows un;
  }

-- the bytes of a written plan pass the questions of bytes
pub written-asked : (plan : Plan) (bs : List ℕ) (places : ℕ) → bs ≡ written plan → length bs ≤ 65536 → 64 ≤ places → bytes_asked places bs ≡ Ok tt
unfolding written
written-asked plan bs places is short room =
    let ends = ends-text (nodes_card plan.nodes plan.head) (map branch_card plan.rows ++ (map mark_card plan.marks ++ map door_card plan.doors)) in
    let table = le-leb 64 places room in
    let bytes = and_from (leb (length bs) 65536) (ends_line bs) (le-leb (length bs) 65536 short) (ap ends_line is ∙ eq-eqb _ 10 ends.last) in
    rw (table, bytes)

-- an accepted deck is that of a sound plan
from-read : (r : Result (List Entry) DeckRefusal) (deck : Deck) → deck_read r ≡ Ok deck → (fs : List Entry) × (r ≡ Ok fs)
from-read (Ok fs) deck h = (fs, refl)
from-read (Err f) deck h = absurd cc

pub only-plans : (bs : List ℕ) (places : ℕ) (deck : Deck) → deck_read (read_bytes places bs) ≡ Ok deck → (plan : Plan) × Sound plan × Describes bs plan
only-plans bs places deck h = let r = from-read (read_bytes places bs) deck h in some-plan bs places r.0 r.1

-- decks with the same cards
pub same-cards : (bs cs : List ℕ) (places : ℕ) → cards cs ≡ cards bs → bytes_asked places cs ≡ bytes_asked places bs → read_bytes places bs ≡ read_bytes places cs
same-cards bs cs places e asks = sym (λ i. read_if (asks i) (e i))

-- The doors of a plan.

no-doors : (rows : List TableRow) (rest : List Reading) → doors_in (map shown (map branch_card rows) ++ rest) ≡ doors_in rest
no-doors [] rest = refl
no-doors (row ∷ rows) rest = no-doors rows rest

mark-no-door : (c : Condition) (k : ℕ) (rest : List Reading) → doors_in (shown (mark_card (k, c)) ∷ rest) ≡ doors_in rest
mark-no-door Able k rest = refl
mark-no-door Failed k rest = refl
mark-no-door Working k rest = refl

no-doors-marked : (marks : List (ℕ × Condition)) (rest : List Reading) → doors_in (map shown (map mark_card marks) ++ rest) ≡ doors_in rest
no-doors-marked [] rest = refl
no-doors-marked (mark ∷ marks) rest = mark-no-door mark.1 mark.0 (map shown (map mark_card marks) ++ rest) ∙ no-doors-marked marks rest

all-doors : (doors : List ℕ) → doors_in (map shown (map door_card doors)) ≡ doors
all-doors [] = refl
all-doors (d ∷ doors) = ap (λ ds. d ∷ ds) (all-doors doors)

pub plan-doors : (bs : List ℕ) (plan : Plan) → Sound plan → Describes bs plan → doors_in (cards bs) ≡ plan.doors
plan-doors bs plan s is =
    ap doors_in (is ∙ written-cards plan s ∙ shown-parts plan) ∙ no-doors plan.rows _ ∙ no-doors-marked plan.marks _ ∙ all-doors plan.doors

-- The laws together.

pub deck-laws : (bs : List ℕ) (table : List TableRow) (answer : Result Deck DeckRefusal) (after : List TableRow) → answer ≡ deck_read (read_bytes (length table) bs) → after ≡ table_after (read_bytes (length table) bs) table → DeckLaws bs table answer after
deck-laws bs table answer after a t = record {
  written_decks_come_back = λ plan s is short room. comes_back plan s bs table (ap cards is) (written-asked plan bs (length table) is short room) answer after a t;
  so_do_decks_with_their_cards = λ plan s is asks. comes_back plan s bs table is asks answer after a t;
  nothing_else_is_accepted = λ deck is. only-plans bs (length table) deck (sym a ∙ is);
  a_list_takes_its_branches = accepted-is-taken bs (length table);
  same_cards_same_answer = λ others e asks.
      let same = same-cards bs others (length table) e asks in
      (a ∙ ap deck_read same, t ∙ ap (λ r. table_after r table) same);
  the_lines_up_to_a_refusal_decide = λ refusal is others asks same. is ∙ up-to-the-line bs others (length table) refusal (sym a ∙ is) asks same;
  a_refusal_leaves_the_table = λ refusal is. t ∙ table_kept (read_bytes (length table) bs) table refusal (sym a ∙ is);
}

pub door-laws : (bs : List ℕ) → DoorLaws bs
door-laws bs = record {
  doors_of_an_accepted_deck = doors-agree bs;
  doors_of_a_written_plan = λ plan s is. plan-doors bs plan s (ap cards is);
  doors_of_its_cards = plan-doors bs;
}

pub deck-refusal : (bs : List ℕ) (places : ℕ) (answer : Result Deck DeckRefusal) → answer ≡ deck_read (read_bytes places bs) → refusal_on answer ≡ first_no_on (deck_questions places bs)
deck-refusal bs places answer a = ap refusal_on a ∙ deck-first places bs
