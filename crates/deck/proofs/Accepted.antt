-- An accepted deck's branches are a network: a list takes them.
use Rattle.std.proofs.Common.{◌≡◌, ℕ, zero, suc, ◌+◌, ◌≤◌, Bool, true, false, cond, eqb, leb, List, [], ◌∷◌, ◌++◌, length, Some, None, Ok, Err, Result, sym, refl, ap, ◌∙◌, subst, arith}
use Rattle.std.proofs.lemmas.List.{length_push}
use Rattle.std.proofs.lemmas.Bool.{and_parts, and_from, leb-true, le-leb, eqb-true, cond-true, false≢true}
use Rattle.refusals.specs.declared.deck_fault.DeckFault.{DeckFault}
use Rattle.refusals.specs.declared.deck_fault.DeckFault.TheVariants.{Turn, Numbers}
use Rattle.refusals.specs.declared.deck_fault.DeckRefusal.{DeckRefusal}
use Rattle.network.specs.declared.branch.TableRow.{TableRow}
use Rattle.network.specs.declared.branch.Condition.{Condition}
use Rattle.network.specs.Questions.{Answer, and_then, nodes_asked, count_asked, row_asked, rows_asked, head_asked, list_asked}
use Rattle.deck.specs.Cards.{Keyword, nodes, branch, failed, working, door, Reading, unknown, card, cards}
use Rattle.deck.specs.Decks.{Entry, nodes_are, branch_is, mark_is, door_is, entry_of, nodes_in, branches_in, marked, last_turn, follows, turn_of, to_study, entry_asked, card_after, read_cards, read_bytes, read_if, bytes_asked}
use Rattle.deck.proofs.Drafts.{length_marked}
use Rattle.deck.proofs.Steps.{answer, from-turn, from-entered, from-asked, from_then, from-study, from-deck}

-- answers that were yes

yes_both : {F : Type 0} (first next : Answer F) → first ≡ Ok tt → next ≡ Ok tt → and_then first next ≡ Ok tt
yes_both first next p q = ap (λ a. and_then a next) p ∙ q

-- rows

rows-push : (n k : ℕ) (rows : List TableRow) (row : TableRow) → rows_asked n k rows ≡ Ok tt → row_asked n (k + length rows) row ≡ Ok tt → rows_asked n k (rows ++ row ∷ []) ≡ Ok tt
rows-push n k [] row e h = let z : k + 0 ≡ k = omega arith in yes_both _ _ (ap (λ i. row_asked n i row) (sym z) ∙ h) refl
rows-push n k (first ∷ rows) row e h =
    let p = from_then (row_asked n k first) (rows_asked n (k + 1) rows) e in
    let z : k + suc (length rows) ≡ k + 1 + length rows = omega arith in
    yes_both _ _ p.0 (rows-push n (k + 1) rows row p.1 (ap (λ i. row_asked n i row) (sym z) ∙ h))

rows-marked : (n j k : ℕ) (c : Condition) (rows : List TableRow) → rows_asked n j (marked k c rows) ≡ rows_asked n j rows
rows-marked n j k c [] = refl
rows-marked n j zero c (row ∷ rows) = refl
rows-marked n j (suc k) c (row ∷ rows) = ap (and_then (row_asked n j row)) (rows-marked n (j + 1) k c rows)

-- the entries so far are a network as far as it goes
record Sofar (es : List Entry) : Type 0 where
  rows : rows_asked (nodes_in es) 0 (branches_in es) ≡ Ok tt
  few : length (branches_in es) ≤ 64
  counted_nodes : 1 ≤ last_turn es → nodes_asked (nodes_in es) ≡ Ok tt
  some : 2 ≤ last_turn es → 1 ≤ length (branches_in es)

-- nothing stands before NODES
first-nodes : (es : List Entry) (n h : ℕ) → follows (last_turn es) (last_turn (nodes_are n h ∷ es)) ≡ true → es ≡ []
first-nodes [] n h e = refl
first-nodes (nodes_are m i ∷ es) n h e = absurd (false≢true e)
first-nodes (branch_is b ∷ es) n h e = absurd (false≢true e)
first-nodes (mark_is k c ∷ es) n h e = absurd (false≢true e)
first-nodes (door_is d ∷ es) n h e = absurd (false≢true e)

branch-after : (es : List Entry) (b : TableRow) → follows (last_turn es) (last_turn (branch_is b ∷ es)) ≡ true → 1 ≤ last_turn es
branch-after [] b e = absurd (false≢true e)
branch-after (nodes_are m i ∷ es) b e = omega arith
branch-after (branch_is x ∷ es) b e = omega arith
branch-after (mark_is k c ∷ es) b e = omega arith
branch-after (door_is d ∷ es) b e = omega arith

mark-after : (es : List Entry) (k : ℕ) (c : Condition) → follows (last_turn es) (last_turn (mark_is k c ∷ es)) ≡ true → 2 ≤ last_turn es
mark-after [] k c e = absurd (false≢true e)
mark-after (nodes_are m i ∷ es) k c e = absurd (false≢true e)
mark-after (branch_is x ∷ es) k c e = omega arith
mark-after (mark_is j d ∷ es) k c e = omega arith
mark-after (door_is d ∷ es) k c e = omega arith

door-after : (es : List Entry) (d : ℕ) → follows (last_turn es) (last_turn (door_is d ∷ es)) ≡ true → 2 ≤ last_turn es
door-after [] d e = absurd (false≢true e)
door-after (nodes_are m i ∷ es) d e = absurd (false≢true e)
door-after (branch_is x ∷ es) d e = omega arith
door-after (mark_is j c ∷ es) d e = omega arith
door-after (door_is x ∷ es) d e = omega arith

one_more : (es : List Entry) (e : Entry) → Sofar es → follows (last_turn es) (last_turn (e ∷ es)) ≡ true → entry_asked es e ≡ Ok tt → Sofar (e ∷ es)
one_more es (nodes_are n h) so turn yes' =
    let none = first-nodes es n h turn in
    let p = from_then (to_study (nodes_asked n)) (head_asked n h) (from-deck _ yes') in
    record {
      rows = ap (λ fs. rows_asked n 0 (branches_in fs)) none;
      few = subst (λ fs. length (branches_in fs) ≤ 64) (sym none) (omega arith);
      counted_nodes = λ _. from-study (nodes_asked n) p.0;
      some = λ h. absurd (omega arith);
    }
one_more es (branch_is b) so turn yes' =
    let p = from_then (count_asked (length (branches_in es) + 1)) (row_asked (nodes_in es) (length (branches_in es)) b) (from-study _ (from-deck _ yes')) in
    let q = and_parts (leb 1 (length (branches_in es) + 1)) (leb (length (branches_in es) + 1) 64) (from-asked _ _ p.0) in
    let long = length_push (branches_in es) b in
    record {
      rows = rows-push (nodes_in es) 0 (branches_in es) b so.rows (let z : 0 + length (branches_in es) ≡ length (branches_in es) = omega arith in ap (λ i. row_asked (nodes_in es) i b) z ∙ p.1);
      few = omega (arith, leb-true _ _ q.1);
      counted_nodes = λ _. so.counted_nodes (branch-after es b turn);
      some = λ _. omega arith;
    }
one_more es (mark_is k c) so turn yes' =
    let long = length_marked k c (branches_in es) in
    let two = mark-after es k c turn in
    record {
      rows = rows-marked (nodes_in es) 0 k c (branches_in es) ∙ so.rows;
      few = omega (arith, so.few);
      counted_nodes = λ _. so.counted_nodes (omega arith);
      some = λ _. omega (arith, so.some two);
    }
one_more es (door_is d) so turn yes' =
    let two = door-after es d turn in
    record { rows = so.rows; few = so.few; counted_nodes = λ _. so.counted_nodes (omega arith); some = λ _. so.some two }

-- the turn of a card's entry is the card's
same_turn : (es : List Entry) (k : Keyword) (ns : List ℕ) → last_turn (entry_of k ns ∷ es) ≡ turn_of k
same_turn es nodes ns = refl
same_turn es branch ns = refl
same_turn es failed ns = refl
same_turn es working ns = refl
same_turn es door ns = refl

card-more : (es : List Entry) (c : Reading) (e : Entry) → Sofar es → card_after es c ≡ Ok e → Sofar (e ∷ es)
card-more es unknown e so h = absurd cc
card-more es (card k None) e so h =
    let p = (from-turn (follows (last_turn es) (turn_of k)) (Err Numbers) Turn e h).1 in absurd cc
card-more es (card k (Some ns)) e so h =
    let p = from-turn (follows (last_turn es) (turn_of k)) _ _ e h in
    let q = from-entered (entry_of k ns) (entry_asked es (entry_of k ns)) e p.1 in
    subst (λ x. Sofar (x ∷ es)) q.0 (one_more es (entry_of k ns) so (ap (follows (last_turn es)) (same_turn es k ns) ∙ p.0) q.1)

abbrev Taken : List Entry → Type 0
Taken es = list_asked (nodes_in es) (branches_in es) ≡ Ok tt

whole : (es : List Entry) → Sofar es → last_turn es ≡ 4 → Taken es
whole es so four =
    let some = so.some (omega arith) in
    yes_both _ _ (so.counted_nodes (omega arith))
    (yes_both _ _ (cond-true _ _ _ (and_from _ _ (le-leb 1 (length (branches_in es)) some) (le-leb (length (branches_in es)) 64 so.few))) so.rows)

at-end : (es fs : List Entry) (refusal : DeckRefusal) → Sofar es → (b : Bool) → eqb (last_turn es) 4 ≡ b → cond b (Ok es) (Err refusal) ≡ Ok fs → Taken fs
at-end es fs refusal so true p h = let q : es ≡ fs = cc in subst Taken q (whole es so (eqb-true _ _ p))
at-end es fs refusal so false p h = absurd cc

step : (c : Reading) (cs : List Reading) → ((es fs : List Entry) → Sofar es → read_cards es cs ≡ Ok fs → Taken fs) → (es fs : List Entry) → Sofar es
    → (r : Result Entry DeckFault) → card_after es c ≡ r → answer es cs (length es + 1) r ≡ Ok fs → Taken fs
unfolding answer
step c cs rest es fs so (Ok e) p h = rest (e ∷ es) fs (card-more es c e so p) h
step c cs rest es fs so (Err f) p h = absurd cc

cards-taken : (cs : List Reading) (es fs : List Entry) → Sofar es → read_cards es cs ≡ Ok fs → Taken fs
unfolding answer
cards-taken [] es fs so h = at-end es fs _ so (eqb (last_turn es) 4) refl h
cards-taken (c ∷ cs) es fs so h = step c cs (cards-taken cs) es fs so (card_after es c) refl h

nothing : Sofar []
nothing = record { rows = refl; few = omega arith; counted_nodes = λ h. absurd (omega arith); some = λ h. absurd (omega arith) }

read_taken : (r : Answer DeckFault) (cs : List Reading) (es : List Entry) → read_if r cs ≡ Ok es → Taken es
read_taken (Ok u) cs es h = cards-taken cs [] es nothing h
read_taken (Err f) cs es h = absurd cc

pub accepted-is-taken : (bs : List ℕ) (places : ℕ) (es : List Entry) → read_bytes places bs ≡ Ok es → list_asked (nodes_in es) (branches_in es) ≡ Ok tt
accepted-is-taken bs places es h = read_taken (bytes_asked places bs) (cards bs) es h
