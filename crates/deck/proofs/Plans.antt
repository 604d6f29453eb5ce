-- The deck of a sound plan is read back.
use Rattle.std.proofs.Common.{◌≡◌, ℕ, ◌+◌, ◌^◌, ◌<◌, ◌≤◌, true, List, [], ◌∷◌, ◌++◌, map, length, Ok, sym, refl, ap, ◌∙◌, append_assoc, append-nil, arith}
use mathlib.Core.List.{map-append}
use Rattle.std.specs.List.{AllByRecursion}
use Rattle.std.proofs.ByRecursion.{All-append, All-map, All-weaker}
use Rattle.std.proofs.lemmas.List.{length_push}
use Rattle.std.proofs.lemmas.Bool.{lt-ltb, le-ltb, le-leb, eq-eqb, ne_eqb, and_from}
use Rattle.refusals.specs.declared.network_fault.NetworkFault.{NetworkFault}
use Rattle.network.specs.Questions.{Answer, and_then, count_asked, row_asked}
use Rattle.network.specs.declared.branch.TableRow.{TableRow}
use Rattle.network.specs.declared.branch.Condition.{Condition}
use Rattle.network.specs.declared.branch.Condition.TheVariants.{Able, Failed, Working}
use Rattle.deck.specs.Cards.{nodes, branch, failed, working, door, numbers_for, Reading}
use Rattle.deck.specs.Decks.{Entry, nodes_are, branch_is, mark_is, door_is, row_of, nodes_in, head_in, with_condition, marked, branches_in, first_door, last_turn, follows, to_study, to_deck, plan_asked, card_after, read_cards, deck_of}
use Rattle.deck.specs.Laws.{Plan, SoundRow, SoundMark, Sound, nodes_card, branch_card, mark_word, mark_card, door_card, plan_cards, applied, plan_deck}
use Rattle.deck.proofs.Drafts.{length_marked}
use Rattle.deck.proofs.Marks.{length-applied}
use Rattle.deck.proofs.Steps.{card-taken, card-passes}
use Rattle.deck.proofs.Texts.{Writable, shown}

-- Questions that a sound plan passes.

plan-asked : (n h : ℕ) → 2 ≤ n → n ≤ 32 → h < n → plan_asked n h ≡ Ok tt
plan-asked n h least most head =
    let count = and_from _ _ (le-leb 2 n least) (le-leb n 32 most) in
    let inside = lt-ltb h n head in
    rw (count, inside)

row-asked : (n k : ℕ) (row : TableRow) → SoundRow n row → row_asked n k row ≡ Ok tt
row-asked n k row s =
    let ends = and_from _ _ (lt-ltb row.from n s.from_is_a_node) (lt-ltb row.to n s.to_is_a_node) in
    let rating = and_from _ _ (le-leb row.mantissa 1000000000 s.mantissa_is_at_most_a_billion) (and_from _ _ (le-leb 9 row.exponent s.exponent_is_9_or_more) (le-leb row.exponent 18 s.exponent_is_18_or_less)) in
    rw (ends, rating)

count-asked : (k : ℕ) → k < 64 → count_asked (k + 1) ≡ Ok tt
count-asked k l = let count = and_from _ _ (le-leb 1 (k + 1) (omega arith)) (le-leb (k + 1) 64 (omega arith)) in rw count

both-pass : (first second : Answer NetworkFault) → first ≡ Ok tt → second ≡ Ok tt → to_deck (to_study (and_then first second)) ≡ Ok tt
both-pass first second p q = rw (p, q)

-- a card of a later section may follow
in-turn : (s t : ℕ) → 2 ≤ s → s ≤ t → follows s t ≡ true
in-turn s t low high =
    let past = le-ltb s 2 low in
    let turn = le-leb s t high in
    rw (past, turn)

row_is : (row : TableRow) → row.condition ≡ Able → row_of (branch_card row).1 ≡ row
row_is row able = ap (λ c. with_condition c row) (sym able)

-- What is known of the entries so far.

pub record Taken (es : List Entry) (last n h : ℕ) (bs : List TableRow) (m : ℕ) : Type 0 where
  pub turn : last_turn es ≤ last
  pub nodes : nodes_in es ≡ n
  pub head : head_in es ≡ h
  pub rows : branches_in es ≡ bs
  pub count : length es ≡ m
  pub shut : first_door es ≡ 0

-- the cards here lead from es to other entries
pub record Reached (es : List Entry) (here rest : List Reading) (last n h : ℕ) (bs : List TableRow) (m : ℕ) : Type 0 where
  pub fs : List Entry
  pub same : read_cards es (here ++ rest) ≡ read_cards fs rest
  pub begun : 2 ≤ last_turn fs
  pub taken : Taken fs last n h bs m

one_branch : (es : List Entry) (n h : ℕ) (rows : List TableRow) (count : ℕ) (row : TableRow) → Taken es 2 n h rows count → SoundRow n row → length rows < 64 →
    follows (last_turn es) 2 ≡ true → card_after es (shown (branch_card row)) ≡ Ok (branch_is row)
one_branch es n h rows count row t s room turn =
    let is = row_is row s.it_is_able_to_fail in
    let few = count-asked (length (branches_in es)) (omega (arith, ap length t.rows)) in
    let asks = ap (λ m. row_asked m (length (branches_in es)) row) t.nodes ∙ row-asked n (length (branches_in es)) row s in
    card-passes es branch (branch_card row).1 turn (both-pass _ _ few asks) ∙ ap (λ r. Ok (branch_is r)) is

branch-more : (es : List Entry) (n h : ℕ) (rows : List TableRow) (count : ℕ) (row : TableRow) → Taken es 2 n h rows count → Taken (branch_is row ∷ es) 2 n h (rows ++ row ∷ []) (count + 1)
branch-more es n h rows count row t = record {
  turn = omega arith;
  nodes = t.nodes;
  head = t.head;
  rows = ap (λ bs. bs ++ row ∷ []) t.rows;
  count = omega (arith, t.count);
  shut = t.shut;
}

rows-read : (more : List TableRow) (rest : List Reading) (es : List Entry) (n h : ℕ) (rows : List TableRow) (count : ℕ) → Taken es 2 n h rows count → 2 ≤ last_turn es → AllByRecursion (SoundRow n) more → length rows + length more ≤ 64 →
    Reached es (map shown (map branch_card more)) rest 2 n h (rows ++ more) (count + length more)
rows-read [] rest es n h rows count t low s room = record {
  fs = es;
  same = refl;
  begun = low;
  taken = record { turn = t.turn; nodes = t.nodes; head = t.head; rows = t.rows ∙ sym (append-nil rows); count = omega (arith, t.count); shut = t.shut };
}
rows-read (row ∷ more) rest es n h rows count t low s room =
    let here = one_branch es n h rows count row t s.0 (omega arith) (in-turn (last_turn es) 2 low t.turn) in
    let long = length_push rows row in
    let next = rows-read more rest (branch_is row ∷ es) n h (rows ++ row ∷ []) (count + 1) (branch-more es n h rows count row t) (omega arith) s.1 (omega arith) in
    record {
      fs = next.fs;
      same = card-taken es (shown (branch_card row)) (map shown (map branch_card more) ++ rest) (branch_is row) here ∙ next.same;
      begun = next.begun;
      taken = record {
        turn = next.taken.turn;
        nodes = next.taken.nodes;
        head = next.taken.head;
        rows = next.taken.rows ∙ append_assoc rows (row ∷ []) more;
        count = omega (arith, next.taken.count);
        shut = next.taken.shut;
      };
    }

one-mark : (es : List Entry) (b k : ℕ) (c : Condition) → SoundMark b (k, c) → length (branches_in es) ≡ b → follows (last_turn es) 3 ≡ true →
    card_after es (shown (mark_card (k, c))) ≡ Ok (mark_is k c)
one-mark es b k Able s long turn = absurd (s.it_marks refl)
one-mark es b k Failed s long turn = let there = lt-ltb k (length (branches_in es)) (omega (arith, s.the_branch_is_there)) in card-passes es failed (k ∷ []) turn (rw there)
one-mark es b k Working s long turn = let there = lt-ltb k (length (branches_in es)) (omega (arith, s.the_branch_is_there)) in card-passes es working (k ∷ []) turn (rw there)

mark-more : (es : List Entry) (n h : ℕ) (rows : List TableRow) (count k : ℕ) (c : Condition) → Taken es 3 n h rows count → Taken (mark_is k c ∷ es) 3 n h (marked k c rows) (count + 1)
mark-more es n h rows count k c t = record {
  turn = omega arith;
  nodes = t.nodes;
  head = t.head;
  rows = ap (marked k c) t.rows;
  count = omega (arith, t.count);
  shut = t.shut;
}

marks-read : (more : List (ℕ × Condition)) (rest : List Reading) (es : List Entry) (n h b : ℕ) (rows : List TableRow) (count : ℕ) → Taken es 3 n h rows count → 2 ≤ last_turn es → length rows ≡ b → AllByRecursion (SoundMark b) more →
    Reached es (map shown (map mark_card more)) rest 3 n h (applied more rows) (count + length more)
marks-read [] rest es n h b rows count t low long s = record {
  fs = es;
  same = refl;
  begun = low;
  taken = record { turn = t.turn; nodes = t.nodes; head = t.head; rows = t.rows; count = omega (arith, t.count); shut = t.shut };
}
marks-read (mark ∷ more) rest es n h b rows count t low long s =
    let k = mark.0 in
    let c = mark.1 in
    let here = one-mark es b k c s.0 (ap length t.rows ∙ long) (in-turn (last_turn es) 3 low t.turn) in
    let next = marks-read more rest (mark_is k c ∷ es) n h b (marked k c rows) (count + 1) (mark-more es n h rows count k c t) (omega arith) (length_marked k c rows ∙ long) s.1 in
    record {
      fs = next.fs;
      same = card-taken es (shown (mark_card mark)) (map shown (map mark_card more) ++ rest) (mark_is k c) here ∙ next.same;
      begun = next.begun;
      taken = record {
        turn = next.taken.turn;
        nodes = next.taken.nodes;
        head = next.taken.head;
        rows = next.taken.rows;
        count = omega (arith, next.taken.count);
        shut = next.taken.shut;
      };
    }

-- the end of a deck, with its network and the line of its first door
pub record Finished (es : List Entry) (cs : List Reading) (n h : ℕ) (bs : List TableRow) (at : ℕ) : Type 0 where
  pub fs : List Entry
  pub same : read_cards es cs ≡ Ok fs
  pub nodes : nodes_in fs ≡ n
  pub head : head_in fs ≡ h
  pub rows : branches_in fs ≡ bs
  pub first : first_door fs ≡ at

door-passes : (es : List Entry) (d : ℕ) → follows (last_turn es) 4 ≡ true → card_after es (shown (door_card d)) ≡ Ok (door_is d)
door-passes es d turn = card-passes es door (d ∷ []) turn refl

more-doors : (more : List ℕ) (es : List Entry) (n h : ℕ) (bs : List TableRow) (at : ℕ) → last_turn es ≡ 4 → nodes_in es ≡ n → head_in es ≡ h → branches_in es ≡ bs → first_door es ≡ at → 0 < at →
    Finished es (map shown (map door_card more)) n h bs at
more-doors [] es n h bs at last a b c first some = record { fs = es; same = rw last; nodes = a; head = b; rows = c; first = first }
more-doors (d ∷ more) es n h bs at last a b c first some =
    let open-already = ne_eqb (first_door es) 0 (λ e. omega arith) in
    let here = door-passes es d (rw last) in
    let next = more-doors more (door_is d ∷ es) n h bs at refl a b c (rw open-already first) some in
    record {
      fs = next.fs;
      same = card-taken es (shown (door_card d)) (map shown (map door_card more)) (door_is d) here ∙ next.same;
      nodes = next.nodes;
      head = next.head;
      rows = next.rows;
      first = next.first;
    }

doors-read : (doors : List ℕ) (es : List Entry) (n h : ℕ) (bs : List TableRow) (count : ℕ) → Taken es 4 n h bs count → 2 ≤ last_turn es → 1 ≤ length doors →
    Finished es (map shown (map door_card doors)) n h bs (count + 1)
doors-read [] es n h bs count t low some = absurd (omega arith)
doors-read (d ∷ more) es n h bs count t low some =
    let shut = eq-eqb (first_door es) 0 t.shut in
    let here = door-passes es d (in-turn (last_turn es) 4 low t.turn) in
    let next = more-doors more (door_is d ∷ es) n h bs (count + 1) refl t.nodes t.head t.rows (rw shut (ap (λ m. m + 1) t.count)) (omega arith) in
    record {
      fs = next.fs;
      same = card-taken es (shown (door_card d)) (map shown (map door_card more)) (door_is d) here ∙ next.same;
      nodes = next.nodes;
      head = next.head;
      rows = next.rows;
      first = next.first;
    }

-- the whole plan

later : (es : List Entry) (last next n h : ℕ) (bs : List TableRow) (m : ℕ) → last ≤ next → Taken es last n h bs m → Taken es next n h bs m
later es last next n h bs m l t = record { turn = omega (arith, t.turn); nodes = t.nodes; head = t.head; rows = t.rows; count = t.count; shut = t.shut }

pub record Back (plan : Plan) : Type 0 where
  pub fs : List Entry
  pub same : read_cards [] (map shown (plan_cards plan)) ≡ Ok fs
  pub deck : deck_of fs ≡ plan_deck plan
  pub rows : branches_in fs ≡ applied plan.marks plan.rows

first_row : (rows : List TableRow) (rest : List Reading) (n h : ℕ) → AllByRecursion (SoundRow n) rows → 1 ≤ length rows → length rows ≤ 64 →
    Reached (nodes_are n h ∷ []) (map shown (map branch_card rows)) rest 2 n h rows (1 + length rows)
first_row [] rest n h s some room = absurd (omega arith)
first_row (row ∷ more) rest n h s some room =
    let start : Taken (nodes_are n h ∷ []) 2 n h [] 1 = record { turn = omega arith; nodes = refl; head = refl; rows = refl; count = refl; shut = refl } in
    let here = one_branch (nodes_are n h ∷ []) n h [] 1 row start s.0 (omega arith) refl in
    let next = rows-read more rest (branch_is row ∷ nodes_are n h ∷ []) n h (row ∷ []) 2 (branch-more (nodes_are n h ∷ []) n h [] 1 row start) (omega arith) s.1 (omega arith) in
    record {
      fs = next.fs;
      same = card-taken (nodes_are n h ∷ []) (shown (branch_card row)) (map shown (map branch_card more) ++ rest) (branch_is row) here ∙ next.same;
      begun = next.begun;
      taken = record {
        turn = next.taken.turn;
        nodes = next.taken.nodes;
        head = next.taken.head;
        rows = next.taken.rows;
        count = omega (arith, next.taken.count);
        shut = next.taken.shut;
      };
    }

first-card : (n h : ℕ) → 2 ≤ n → n ≤ 32 → h < n → card_after [] (shown (nodes_card n h)) ≡ Ok (nodes_are n h)
first-card n h least most head = card-passes [] nodes (n ∷ h ∷ []) refl (ap to_deck (plan-asked n h least most head))

pub shown-parts : (plan : Plan) → map shown (plan_cards plan) ≡ shown (nodes_card plan.nodes plan.head) ∷ (map shown (map branch_card plan.rows) ++ (map shown (map mark_card plan.marks) ++ map shown (map door_card plan.doors)))
shown-parts plan = ap (λ cs. shown (nodes_card plan.nodes plan.head) ∷ cs)
    (map-append shown (map branch_card plan.rows) _ ∙ ap (λ cs. map shown (map branch_card plan.rows) ++ cs) (map-append shown (map mark_card plan.marks) _))

same-deck : (fs : List Entry) (plan : Plan) → nodes_in fs ≡ plan.nodes → head_in fs ≡ plan.head → length (branches_in fs) ≡ length plan.rows → first_door fs ≡ length plan.rows + length plan.marks + 2 → deck_of fs ≡ plan_deck plan
same-deck fs plan a b c d = cc

pub plan-back : (plan : Plan) → Sound plan → Back plan
plan-back plan s =
    let n = plan.nodes in
    let h = plan.head in
    let doors = map shown (map door_card plan.doors) in
    let marks = map shown (map mark_card plan.marks) in
    let rows = map shown (map branch_card plan.rows) in
    let one = card-taken [] (shown (nodes_card n h)) (rows ++ (marks ++ doors)) (nodes_are n h) (first-card n h s.two_nodes_at_least s.at_most_32_nodes s.the_head_is_a_node) in
    let two = first_row plan.rows (marks ++ doors) n h s.each_branch_is_sound s.some_branch s.at_most_64_branches in
    let three = marks-read plan.marks doors two.fs n h (length plan.rows) plan.rows (1 + length plan.rows) (later _ 2 3 n h _ _ (omega arith) two.taken) two.begun refl s.each_mark_is_sound in
    let four = doors-read plan.doors three.fs n h (applied plan.marks plan.rows) (1 + length plan.rows + length plan.marks) (later _ 3 4 n h _ _ (omega arith) three.taken) three.begun s.some_door in
    record {
      fs = four.fs;
      same = ap (read_cards []) (shown-parts plan) ∙ one ∙ two.same ∙ three.same ∙ four.same;
      deck = same-deck four.fs plan four.nodes four.head (ap length four.rows ∙ length-applied plan.marks plan.rows) (omega (arith, four.first));
      rows = four.rows;
    }

-- a sound plan can be written

row-writable : (n : ℕ) → n ≤ 32 → (row : TableRow) → SoundRow n row → Writable (branch_card row)
row-writable n most row s = record {
  count = refl;
  small = (omega (arith, s.from_is_a_node), (omega (arith, s.to_is_a_node), (omega (arith, s.mantissa_is_at_most_a_billion), (omega (arith, s.exponent_is_18_or_less), tt))));
}

mark-count : (c : Condition) → 1 ≡ numbers_for (mark_word c)
mark-count Able = refl
mark-count Failed = refl
mark-count Working = refl

mark-writable : (b : ℕ) → b ≤ 64 → (mark : ℕ × Condition) → SoundMark b mark → Writable (mark_card mark)
mark-writable b most mark s = record { count = mark-count mark.1; small = (omega (arith, s.the_branch_is_there), tt) }

door-writable : (d : ℕ) → d < 2 ^ 32 → Writable (door_card d)
door-writable d l = record { count = refl; small = (l, tt) }

pub plan-writable : (plan : Plan) → Sound plan → AllByRecursion Writable (plan_cards plan)
plan-writable plan s = (
  record { count = refl; small = (omega (arith, s.at_most_32_nodes), (omega (arith, s.at_most_32_nodes, s.the_head_is_a_node), tt)) },
  All-append Writable (map branch_card plan.rows) _
      (All-map Writable branch_card plan.rows (All-weaker _ _ (row-writable plan.nodes s.at_most_32_nodes) plan.rows s.each_branch_is_sound))
      (All-append Writable (map mark_card plan.marks) _
      (All-map Writable mark_card plan.marks (All-weaker _ _ (mark-writable (length plan.rows) s.at_most_64_branches) plan.marks s.each_mark_is_sound))
      (All-map Writable door_card plan.doors (All-weaker _ _ door-writable plan.doors s.each_door_fits_32_bits))),
)
