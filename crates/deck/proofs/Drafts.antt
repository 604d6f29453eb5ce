-- One branch more, and one mark more, in a draft.
use Rattle.std.proofs.Common.{◌≡◌, ℕ, zero, suc, ◌<◌, true, List, [], ◌∷◌, length, get_or, set, Ok, Result, sym, refl, ap, ◌∙◌, arith, length-set}
use Rattle.std.proofs.lemmas.Bool.Decides.{nat_tests}
use Rattle.arrayvec.specs.ArrayVec.{array_vec_len, with_item}
use Rattle.network.specs.declared.branch.Condition.TheVariants.{Able}
use Rattle.network.specs.declared.branch.TableRow.{TableRow}
use Rattle.network.specs.declared.branch.Condition.{Condition}
use Rattle.deck.specs.Decks.{Entry, mark_is, last_turn, follows, marked, with_condition}
use Rattle.deck.specs.Drafts.{Holds, Next}
use Rattle.refusals.specs.declared.deck_fault.DeckFault.{DeckFault}
use Rattle.deck.specs.declared.draft.Draft.{Draft}
use Rattle.deck.specs.declared.draft.Section.TheVariants.{Marks}

-- a mark as a write at its place
marked-set : (k : ℕ) (c : Condition) (bs : List TableRow) (x : TableRow) → k < length bs → marked k c bs ≡ set bs k (with_condition c (get_or bs k x))
marked-set k c [] x l = absurd (omega arith)
marked-set zero c (b ∷ bs) x l = refl
marked-set (suc k) c (b ∷ bs) x l = ap (λ t. b ∷ t) (marked-set k c bs x (omega arith))

pub length_marked : (k : ℕ) (c : Condition) (bs : List TableRow) → length (marked k c bs) ≡ length bs
length_marked k c [] = refl
length_marked zero c (b ∷ bs) = refl
length_marked (suc k) c (b ∷ bs) = ap suc (length_marked k c bs)

-- what a place past the end reads as
abbrev pub blank : TableRow
blank = record { from = 0; to = 0; mantissa = 0; exponent = 0; condition = Able }

-- the rows with another condition at k, written through the row that is lent
pub mark-put : (d : Draft) (es : List Entry) (k : ℕ) (c : Condition) (row : TableRow) → Holds d es → follows (last_turn es) 3 ≡ true → row ≡ get_or d.rows.items k row → k < array_vec_len d.rows →
    Holds (record { section = Marks; nodes = d.nodes; head = d.head; door = d.door; rows = with_item d.rows k (with_condition c row) }) (mark_is k c ∷ es)
mark-put d es k c row h turn is l = record {
  section = refl;
  nodes = h.nodes;
  head = h.head;
  few = omega (arith, length-set d.rows.items k (with_condition c row), h.few);
  rows = ap (λ r. set d.rows.items k (with_condition c r)) is ∙ sym (marked-set k c d.rows.items row l) ∙ ap (marked k c) h.rows;
  door = h.door;
  shut = λ _. grind (arith, nat_tests);
  opened = λ e. absurd (omega arith);
}

pub next-ok : (es : List Entry) (o : Result Entry DeckFault) (e : Entry) (d : Draft) → Holds d (e ∷ es) → o ≡ Ok e → Next es o (Ok tt) d
next-ok es o e d h p = rw p (refl, h)
