-- Only decks of sound plans are accepted.
use Rattle.std.proofs.Common.{◌≡◌, ℕ, zero, suc, ◌+◌, ◌^◌, ◌<◌, ◌≤◌, Bool, true, false, cond, ◌&&◌, eqb, ltb, leb, List, [], ◌∷◌, ◌++◌, map, length, get_or, Some, None, Ok, Err, Option, Result, sym, refl, ap, ◌∙◌, subst, arith}
use Rattle.std.specs.Str.Parse.{digits_value}
use Rattle.std.specs.List.{AllByRecursion}
use Rattle.std.specs.Str.{all_ascii_digits}
use Rattle.std.proofs.lemmas.List.{length_push}
use Rattle.std.proofs.lemmas.Bool.{ltb-true, leb-true, and_parts, true≢false, false≢true}
use Rattle.refusals.specs.declared.deck_fault.DeckFault.{DeckFault}
use Rattle.refusals.specs.declared.deck_fault.DeckFault.TheVariants.{Numbers, Turn}
use Rattle.network.specs.Questions.{Answer, asked, nodes_asked, count_asked, row_asked, head_asked}
use Rattle.network.specs.Ratings.{rating_fits}
use Rattle.network.specs.declared.branch.TableRow.{TableRow}
use Rattle.network.specs.declared.branch.Condition.{Condition}
use Rattle.network.specs.declared.branch.Condition.TheVariants.{Able, Failed, Working}
use Rattle.deck.specs.Words.{words, lines, number_of, numbers_in, prefixed}
use Rattle.deck.specs.Cards.{Keyword, nodes, branch, failed, working, door, numbers_for, keyword_for, Reading, unknown, card, card_by, card_on, cards}
use Rattle.deck.specs.Decks.{Entry, nodes_are, branch_is, mark_is, door_is, row_of, entry_of, entry_asked, nodes_in, branches_in, last_turn, turn_of, follows, to_study, plan_asked, counted, card_after, read_cards, read_bytes, read_if, bytes_asked, refused}
use Rattle.deck.specs.Laws.{Plan, SoundRow, SoundMark, Sound, nodes_card, branch_card, mark_card, door_card, plan_cards, written, Describes}
use Rattle.deck.proofs.Drafts.{length_marked}
use Rattle.deck.proofs.Steps.{answer, from-turn, from-entered, from-ended, from-asked, from_then, from-study, from-deck}
use Rattle.deck.proofs.Texts.{Small, Writable, shown, cards-text}
use Rattle.deck.proofs.Plans.{plan-writable, shown-parts}

-- The numbers of a card fit 32 bits, and are as many as its word wants.

from-number : (b : Bool) (v n : ℕ) → cond b (Some v) None ≡ Some n → (b ≡ true) × (v ≡ n)
from-number true v n h = (refl, cc)
from-number false v n h = absurd cc

number_small : (w : List ℕ) (n : ℕ) → number_of w ≡ Some n → n < 2 ^ 32
number_small w n h =
    let p = from-number (leb 1 (length w) && leb (length w) 10 && all_ascii_digits w && leb (digits_value 10 w) 4294967295) (digits_value 10 w) n h in
    let q = and_parts (leb 1 (length w) && leb (length w) 10 && all_ascii_digits w) (leb (digits_value 10 w) 4294967295) p.0 in
    let most = leb-true (digits_value 10 w) 4294967295 q.1 in
    omega (arith, p.1)

record Parted (o : Option ℕ) (p : Option (List ℕ)) (ns : List ℕ) : Type 0 where
  n : ℕ
  ms : List ℕ
  first : o ≡ Some n
  more : p ≡ Some ms
  is : n ∷ ms ≡ ns

parted : (o : Option ℕ) (p : Option (List ℕ)) (ns : List ℕ) → prefixed o p ≡ Some ns → Parted o p ns
parted None p ns h = absurd cc
parted (Some n) None ns h = absurd cc
parted (Some n) (Some ms) ns h = record { n = n; ms = ms; first = refl; more = refl; is = cc }

numbers-proper : (k : ℕ) (ws : List (List ℕ)) (ns : List ℕ) → numbers_in k ws ≡ Some ns → (length ns ≡ k) × Small ns
numbers-proper zero [] ns h = let e : [] ≡ ns = cc in subst (λ ms. (length ms ≡ 0) × Small ms) e (refl, tt)
numbers-proper zero (w ∷ ws) ns h = absurd cc
numbers-proper (suc k) [] ns h = absurd cc
numbers-proper (suc k) (w ∷ ws) ns h =
    let p = parted (number_of w) (numbers_in k ws) ns h in
    let more = numbers-proper k ws p.ms p.more in
    subst (λ ms. (length ms ≡ suc k) × Small ms) p.is (ap suc more.0, (number_small w p.n p.first, more.1))

abbrev Proper : Reading → Type 0
Proper unknown = Unit {0}
Proper (card k None) = Unit {0}
Proper (card k (Some ns)) = Writable (k, ns)

proper-numbers : (k : Keyword) (ws : List (List ℕ)) (o : Option (List ℕ)) → numbers_in (numbers_for k) ws ≡ o → Proper (card k o)
proper-numbers k ws None h = tt
proper-numbers k ws (Some ns) h = let p = numbers-proper (numbers_for k) ws ns h in record { count = p.0; small = p.1 }

proper-by : (o : Option Keyword) (ws : List (List ℕ)) → Proper (card_by o ws)
proper-by None ws = tt
proper-by (Some k) ws = proper-numbers k ws (numbers_in (numbers_for k) ws) refl

proper-card : (ws : List (List ℕ)) → Proper (card_on ws)
proper-card [] = tt
proper-card (w ∷ ws) = proper-by (keyword_for w) ws

all-proper : (ls : List (List ℕ)) → AllByRecursion Proper (map (λ l. card_on (words l)) ls)
all-proper [] = tt
all-proper (l ∷ ls) = (proper-card (words l), all-proper ls)

-- A card that was accepted.

record Accepted (es : List Entry) (c : Reading) (cs : List Reading) (fs : List Entry) : Type 0 where
  k : Keyword
  ns : List ℕ
  is : c ≡ card k (Some ns)
  turn : follows (last_turn es) (turn_of k) ≡ true
  asks : entry_asked es (entry_of k ns) ≡ Ok tt
  next : read_cards (entry_of k ns ∷ es) cs ≡ Ok fs

accepted-card : (es : List Entry) (c : Reading) (cs : List Reading) (fs : List Entry) (e : Entry) → card_after es c ≡ Ok e → read_cards (e ∷ es) cs ≡ Ok fs → Accepted es c cs fs
accepted-card es unknown cs fs e p h = absurd cc
accepted-card es (card k None) cs fs e p h = let q : Err Numbers ≡ Ok e = (from-turn (follows (last_turn es) (turn_of k)) (Err Numbers) Turn e p).1 in absurd cc
accepted-card es (card k (Some ns)) cs fs e p h =
    let t = from-turn (follows (last_turn es) (turn_of k)) (counted es (entry_of k) (Some ns)) _ e p in
    let q = from-entered (entry_of k ns) (entry_asked es (entry_of k ns)) e t.1 in
    record { k = k; ns = ns; is = refl; turn = t.0; asks = q.1; next = ap (λ x. read_cards (x ∷ es) cs) q.0 ∙ h }

accepted-step : (es : List Entry) (c : Reading) (cs : List Reading) (fs : List Entry) (o : Result Entry DeckFault) → card_after es c ≡ o → answer es cs (length es + 1) o ≡ Ok fs → Accepted es c cs fs
unfolding answer
accepted-step es c cs fs (Ok e) p h = accepted-card es c cs fs e p h
accepted-step es c cs fs (Err f) p h = absurd cc

accepted : (es : List Entry) (c : Reading) (cs : List Reading) (fs : List Entry) → read_cards es (c ∷ cs) ≡ Ok fs → Accepted es c cs fs
unfolding answer
accepted es c cs fs h = accepted-step es c cs fs (card_after es c) refl h

row-sound : (n k : ℕ) (row : TableRow) → row.condition ≡ Able → row_asked n k row ≡ Ok tt → SoundRow n row
row-sound n k row able h =
    let p = from_then (asked (ltb row.from n && ltb row.to n) _) _ h in
    let ends = and_parts (ltb row.from n) (ltb row.to n) (from-asked _ _ p.0) in
    let rating = and_parts (leb row.mantissa 1000000000) _ (from-asked (rating_fits row.mantissa row.exponent) _ p.1) in
    let exponent = and_parts (leb 9 row.exponent) (leb row.exponent 18) rating.1 in
    record {
      from_is_a_node = ltb-true _ _ ends.0;
      to_is_a_node = ltb-true _ _ ends.1;
      mantissa_is_at_most_a_billion = leb-true _ _ rating.0;
      exponent_is_9_or_more = leb-true _ _ exponent.0;
      exponent_is_18_or_less = leb-true _ _ exponent.1;
      it_is_able_to_fail = able;
    }

-- Lists by their length.

one_of : (ns : List ℕ) → length ns ≡ 1 → ns ≡ get_or ns 0 0 ∷ []
one_of [] e = absurd (omega arith)
one_of (a ∷ []) e = refl
one_of (a ∷ b ∷ ns) e = absurd (omega arith)

two-of : (ns : List ℕ) → length ns ≡ 2 → ns ≡ get_or ns 0 0 ∷ get_or ns 1 0 ∷ []
two-of [] e = absurd (omega arith)
two-of (a ∷ ns) e = ap (λ ms. a ∷ ms) (one_of ns (omega arith))

three-of : (ns : List ℕ) → length ns ≡ 3 → ns ≡ get_or ns 0 0 ∷ get_or ns 1 0 ∷ get_or ns 2 0 ∷ []
three-of [] e = absurd (omega arith)
three-of (a ∷ ns) e = ap (λ ms. a ∷ ms) (two-of ns (omega arith))

four-of : (ns : List ℕ) → length ns ≡ 4 → ns ≡ get_or ns 0 0 ∷ get_or ns 1 0 ∷ get_or ns 2 0 ∷ get_or ns 3 0 ∷ []
four-of [] e = absurd (omega arith)
four-of (a ∷ ns) e = ap (λ ms. a ∷ ms) (three-of ns (omega arith))

-- The doors at the end of a deck.

record DoorsLeft (cs : List Reading) : Type 0 where
  doors : List ℕ
  fit : Small doors
  is : cs ≡ map shown (map door_card doors)

door-shown : (ns : List ℕ) → Writable (door, ns) → (card door (Some ns) ≡ shown (door_card (get_or ns 0 0))) × (get_or ns 0 0 < 2 ^ 32)
door-shown ns w =
    let e = one_of ns w.count in
    (ap (λ ms. card door (Some ms)) e, (subst (λ ms. Small ms) e w.small).0)

door-left : (ns : List ℕ) (cs : List Reading) → Writable (door, ns) → DoorsLeft cs → DoorsLeft (card door (Some ns) ∷ cs)
door-left ns cs w left =
    let d = door-shown ns w in
    record { doors = get_or ns 0 0 ∷ left.doors; fit = (d.1, left.fit); is = (λ i. d.0 i ∷ left.is i) }

not-next : (s t : ℕ) (es : List Entry) → last_turn es ≡ s → follows s t ≡ false → follows (last_turn es) t ≡ true → ⊥
not-next s t es last never turn = true≢false (sym turn ∙ ap (λ x. follows x t) last ∙ never)

doors-case : (cs : List Reading) → ((es fs : List Entry) → last_turn es ≡ 4 → AllByRecursion Proper cs → read_cards es cs ≡ Ok fs → DoorsLeft cs) →
    (es fs : List Entry) → last_turn es ≡ 4 → AllByRecursion Proper cs → (k : Keyword) (ns : List ℕ) → Writable (k, ns) → follows (last_turn es) (turn_of k) ≡ true → read_cards (entry_of k ns ∷ es) cs ≡ Ok fs → DoorsLeft (card k (Some ns) ∷ cs)
doors-case cs rest es fs last proper nodes ns w turn h = absurd (not-next 4 1 es last refl turn)
doors-case cs rest es fs last proper branch ns w turn h = absurd (not-next 4 2 es last refl turn)
doors-case cs rest es fs last proper failed ns w turn h = absurd (not-next 4 3 es last refl turn)
doors-case cs rest es fs last proper working ns w turn h = absurd (not-next 4 3 es last refl turn)
doors-case cs rest es fs last proper door ns w turn h = door-left ns cs w (rest (door_is (get_or ns 0 0) ∷ es) fs refl proper h)

doors-only : (cs : List Reading) (es fs : List Entry) → last_turn es ≡ 4 → AllByRecursion Proper cs → read_cards es cs ≡ Ok fs → DoorsLeft cs
doors-only [] es fs last proper h = record { doors = []; fit = tt; is = refl }
doors-only (c ∷ cs) es fs last proper h =
    let a = accepted es c cs fs h in
    subst (λ x. DoorsLeft (x ∷ cs)) (sym a.is) (doors-case cs (doors-only cs) es fs last proper.1 a.k a.ns (subst Proper a.is proper.0) a.turn a.next)

-- The marks before them, on b branches.

record MarksLeft (b : ℕ) (cs : List Reading) : Type 0 where
  marks : List (ℕ × Condition)
  doors : List ℕ
  sound : AllByRecursion (SoundMark b) marks
  some : 1 ≤ length doors
  fit : Small doors
  is : cs ≡ map shown (map mark_card marks) ++ map shown (map door_card doors)

door-first : (b : ℕ) (ns : List ℕ) (cs : List Reading) → Writable (door, ns) → DoorsLeft cs → MarksLeft b (card door (Some ns) ∷ cs)
door-first b ns cs w left =
    let d = door-shown ns w in
    record { marks = []; doors = get_or ns 0 0 ∷ left.doors; sound = tt; some = omega arith; fit = (d.1, left.fit); is = (λ i. d.0 i ∷ left.is i) }

mark-first : (b k : ℕ) (c : Condition) (r : Reading) (cs : List Reading) → SoundMark b (k, c) → r ≡ shown (mark_card (k, c)) → MarksLeft b cs → MarksLeft b (r ∷ cs)
mark-first b k c r cs s e left = record {
  marks = (k, c) ∷ left.marks;
  doors = left.doors;
  sound = (s, left.sound);
  some = left.some;
  fit = left.fit;
  is = (λ i. e i ∷ left.is i);
}

mark-sound : (es : List Entry) (b k : ℕ) (c : Condition) → length (branches_in es) ≡ b → (c ≡ Able → ⊥) → entry_asked es (mark_is k c) ≡ Ok tt → SoundMark b (k, c)
mark-sound es b k c long marks h = record {
  the_branch_is_there = let l = ltb-true k (length (branches_in es)) (from-asked _ _ h) in omega arith;
  it_marks = marks;
}

failed-marks : Failed ≡ Able → ⊥
failed-marks e = cc

working-marks : Working ≡ Able → ⊥
working-marks e = cc

MarksRead : List Reading → Type 0
MarksRead cs = (es fs : List Entry) (b : ℕ) → last_turn es ≡ 3 → length (branches_in es) ≡ b → AllByRecursion Proper cs → read_cards es cs ≡ Ok fs → MarksLeft b cs

-- a mark or a door after branches or marks
mark-case : (cs : List Reading) → MarksRead cs → (es fs : List Entry) (b : ℕ) (s : ℕ) → last_turn es ≡ s → follows s 1 ≡ false → length (branches_in es) ≡ b → AllByRecursion Proper cs →
    (k : Keyword) (ns : List ℕ) → Writable (k, ns) → follows (last_turn es) (turn_of k) ≡ true → entry_asked es (entry_of k ns) ≡ Ok tt → read_cards (entry_of k ns ∷ es) cs ≡ Ok fs → (k ≡ branch → ⊥) → MarksLeft b (card k (Some ns) ∷ cs)
unfolding MarksRead
mark-case cs rest es fs b s last never long proper nodes ns w turn asks h other = absurd (not-next s 1 es last never turn)
mark-case cs rest es fs b s last never long proper branch ns w turn asks h other = absurd (other refl)
mark-case cs rest es fs b s last never long proper failed ns w turn asks h other =
    mark-first b (get_or ns 0 0) Failed (card failed (Some ns)) cs (mark-sound es b (get_or ns 0 0) Failed long failed-marks asks) (ap (λ ms. card failed (Some ms)) (one_of ns w.count))
    (rest (mark_is (get_or ns 0 0) Failed ∷ es) fs b refl (length_marked (get_or ns 0 0) Failed (branches_in es) ∙ long) proper h)
mark-case cs rest es fs b s last never long proper working ns w turn asks h other =
    mark-first b (get_or ns 0 0) Working (card working (Some ns)) cs (mark-sound es b (get_or ns 0 0) Working long working-marks asks) (ap (λ ms. card working (Some ms)) (one_of ns w.count))
    (rest (mark_is (get_or ns 0 0) Working ∷ es) fs b refl (length_marked (get_or ns 0 0) Working (branches_in es) ∙ long) proper h)
mark-case cs rest es fs b s last never long proper door ns w turn asks h other = door-first b ns cs w (doors-only cs (door_is (get_or ns 0 0) ∷ es) fs refl proper h)

-- a deck does not end before a door
not-ended : (es fs : List Entry) (s : ℕ) → last_turn es ≡ s → eqb s 4 ≡ false → read_cards es [] ≡ Ok fs → ⊥
not-ended es fs s last early h = true≢false (sym (from-ended (eqb (last_turn es) 4) es fs (refused Turn (length es + 1)) h).0 ∙ ap (λ x. eqb x 4) last ∙ early)

not-branch : (es : List Entry) (k : Keyword) → last_turn es ≡ 3 → follows (last_turn es) (turn_of k) ≡ true → k ≡ branch → ⊥
not-branch es k last turn is = not-next 3 2 es last refl (ap (λ x. follows (last_turn es) (turn_of x)) (sym is) ∙ turn)

marks-only : (cs : List Reading) → MarksRead cs
unfolding MarksRead
marks-only [] es fs b last long proper h = absurd (not-ended es fs 3 last refl h)
marks-only (c ∷ cs) es fs b last long proper h =
    let a = accepted es c cs fs h in
    subst (λ x. MarksLeft b (x ∷ cs)) (sym a.is) (mark-case cs (marks-only cs) es fs b 3 last refl long proper.1 a.k a.ns (subst Proper a.is proper.0) a.turn a.asks a.next (not-branch es a.k last a.turn))

-- The branches before those: b of them so far, among n nodes.

record RowsLeft (n b : ℕ) (cs : List Reading) : Type 0 where
  rows : List TableRow
  rest : List Reading
  sound : AllByRecursion (SoundRow n) rows
  room : b + length rows ≤ 64
  left : MarksLeft (b + length rows) rest
  is : cs ≡ map shown (map branch_card rows) ++ rest

no-more-rows : (n b : ℕ) (cs : List Reading) → b ≤ 64 → MarksLeft b cs → RowsLeft n b cs
no-more-rows n b cs room left = let same : b ≡ b + 0 = omega arith in record { rows = []; rest = cs; sound = tt; room = omega arith; left = subst (λ m. MarksLeft m cs) same left; is = refl }

record SomeRows (n b : ℕ) (cs : List Reading) : Type 0 where
  all : RowsLeft n b cs
  some : 1 ≤ length all.rows

row_first : (n b : ℕ) (row : TableRow) (r : Reading) (cs : List Reading) → SoundRow n row → r ≡ shown (branch_card row) → RowsLeft n (b + 1) cs → SomeRows n b (r ∷ cs)
row_first n b row r cs s e left =
    let same : b + 1 + length left.rows ≡ b + length (row ∷ left.rows) = omega arith in
    record {
      all = record {
        rows = row ∷ left.rows;
        rest = left.rest;
        sound = (s, left.sound);
        room = omega (arith, left.room);
        left = subst (λ m. MarksLeft m left.rest) same left.left;
        is = (λ i. e i ∷ left.is i);
      };
      some = omega arith;
    }

-- what the branches so far are
record Rows (es : List Entry) (n b : ℕ) : Type 0 where
  nodes : nodes_in es ≡ n
  long : length (branches_in es) ≡ b

RowsRead : List Reading → Type 0
RowsRead cs = (es fs : List Entry) (n b : ℕ) → last_turn es ≡ 2 → Rows es n b → b ≤ 64 → AllByRecursion Proper cs → read_cards es cs ≡ Ok fs → RowsLeft n b cs

branch-case : (cs : List Reading) → RowsRead cs → (es fs : List Entry) (n b : ℕ) → Rows es n b → AllByRecursion Proper cs →
    (ns : List ℕ) → Writable (branch, ns) → entry_asked es (branch_is (row_of ns)) ≡ Ok tt → read_cards (branch_is (row_of ns) ∷ es) cs ≡ Ok fs → SomeRows n b (card branch (Some ns) ∷ cs)
unfolding RowsRead
branch-case cs rest es fs n b r proper ns w asks h =
    let p = from_then (count_asked (length (branches_in es) + 1)) (row_asked (nodes_in es) (length (branches_in es)) (row_of ns)) (from-study _ (from-deck _ asks)) in
    let sound = row-sound (nodes_in es) (length (branches_in es)) (row_of ns) refl p.1 in
    let count = and_parts (leb 1 (length (branches_in es) + 1)) (leb (length (branches_in es) + 1) 64) (from-asked _ _ p.0) in
    let most = leb-true (length (branches_in es) + 1) 64 count.1 in
    let same = r.long in
    row_first n b (row_of ns) (card branch (Some ns)) cs (subst (λ m. SoundRow m (row_of ns)) r.nodes sound) (ap (λ ms. card branch (Some ms)) (four-of ns w.count))
    (rest (branch_is (row_of ns) ∷ es) fs n (b + 1) refl (record { nodes = r.nodes; long = length_push (branches_in es) (row_of ns) ∙ ap (λ m. m + 1) r.long }) (omega arith) proper h)

-- a card after a branch
row-case : (cs : List Reading) → RowsRead cs → (es fs : List Entry) (n b : ℕ) → last_turn es ≡ 2 → Rows es n b → b ≤ 64 → AllByRecursion Proper cs →
    (k : Keyword) (ns : List ℕ) → Writable (k, ns) → follows (last_turn es) (turn_of k) ≡ true → entry_asked es (entry_of k ns) ≡ Ok tt → read_cards (entry_of k ns ∷ es) cs ≡ Ok fs → RowsLeft n b (card k (Some ns) ∷ cs)
row-case cs rest es fs n b last r room proper nodes ns w turn asks h = absurd (not-next 2 1 es last refl turn)
row-case cs rest es fs n b last r room proper branch ns w turn asks h = (branch-case cs rest es fs n b r proper ns w asks h).all
row-case cs rest es fs n b last r room proper failed ns w turn asks h = no-more-rows n b _ room (mark-case cs (marks-only cs) es fs b 2 last refl r.long proper failed ns w turn asks h (λ e. cc))
row-case cs rest es fs n b last r room proper working ns w turn asks h = no-more-rows n b _ room (mark-case cs (marks-only cs) es fs b 2 last refl r.long proper working ns w turn asks h (λ e. cc))
row-case cs rest es fs n b last r room proper door ns w turn asks h = no-more-rows n b _ room (mark-case cs (marks-only cs) es fs b 2 last refl r.long proper door ns w turn asks h (λ e. cc))

rows-only : (cs : List Reading) → RowsRead cs
unfolding RowsRead
rows-only [] es fs n b last r room proper h = absurd (not-ended es fs 2 last refl h)
rows-only (c ∷ cs) es fs n b last r room proper h =
    let a = accepted es c cs fs h in
    subst (λ x. RowsLeft n b (x ∷ cs)) (sym a.is) (row-case cs (rows-only cs) es fs n b last r room proper.1 a.k a.ns (subst Proper a.is proper.0) a.turn a.asks a.next)

-- The NODES card in front, and the whole deck.

record Whole (cs : List Reading) : Type 0 where
  plan : Plan
  sound : Sound plan
  is : cs ≡ map shown (plan_cards plan)

-- the card after NODES
second-case : (cs : List Reading) (fs : List Entry) (n h : ℕ) → AllByRecursion Proper cs →
    (k : Keyword) (ns : List ℕ) → Writable (k, ns) → follows 1 (turn_of k) ≡ true → entry_asked (nodes_are n h ∷ []) (entry_of k ns) ≡ Ok tt → read_cards (entry_of k ns ∷ nodes_are n h ∷ []) cs ≡ Ok fs → SomeRows n 0 (card k (Some ns) ∷ cs)
second-case cs fs n h proper nodes ns w turn asks g = absurd (false≢true turn)
second-case cs fs n h proper branch ns w turn asks g = branch-case cs (rows-only cs) (nodes_are n h ∷ []) fs n 0 (record { nodes = refl; long = refl }) proper ns w asks g
second-case cs fs n h proper failed ns w turn asks g = absurd (false≢true turn)
second-case cs fs n h proper working ns w turn asks g = absurd (false≢true turn)
second-case cs fs n h proper door ns w turn asks g = absurd (false≢true turn)

after-nodes : (cs : List Reading) (fs : List Entry) (n h : ℕ) → AllByRecursion Proper cs → read_cards (nodes_are n h ∷ []) cs ≡ Ok fs → SomeRows n 0 cs
after-nodes [] fs n h proper g = absurd (not-ended (nodes_are n h ∷ []) fs 1 refl refl g)
after-nodes (c ∷ cs) fs n h proper g =
    let a = accepted (nodes_are n h ∷ []) c cs fs g in
    subst (λ x. SomeRows n 0 (x ∷ cs)) (sym a.is) (second-case cs fs n h proper.1 a.k a.ns (subst Proper a.is proper.0) a.turn a.asks a.next)

whole : (cs : List Reading) (n h : ℕ) → plan_asked n h ≡ Ok tt → SomeRows n 0 cs → Whole (shown (nodes_card n h) ∷ cs)
whole cs n h asks rows =
    let all = rows.all in
    let marks = all.left in
    let p = from_then (to_study (nodes_asked n)) (head_asked n h) asks in
    let count = and_parts (leb 2 n) (leb n 32) (from-asked _ _ (from-study _ p.0)) in
    let plan : Plan = record { nodes = n; head = h; rows = all.rows; marks = marks.marks; doors = marks.doors } in
    let same : 0 + length all.rows ≡ length all.rows = omega arith in
    record {
      plan = plan;
      sound = record {
        two_nodes_at_least = leb-true 2 n count.0;
        at_most_32_nodes = leb-true n 32 count.1;
        the_head_is_a_node = ltb-true h n (from-asked _ _ p.1);
        some_branch = rows.some;
        at_most_64_branches = omega (arith, all.room);
        each_branch_is_sound = all.sound;
        each_mark_is_sound = subst (λ b. AllByRecursion (SoundMark b) marks.marks) same marks.sound;
        some_door = marks.some;
        each_door_fits_32_bits = marks.fit;
      };
      is = ap (λ rs. shown (nodes_card n h) ∷ rs) (all.is ∙ ap (λ rs. map shown (map branch_card all.rows) ++ rs) marks.is) ∙ sym (shown-parts plan);
    }

first-case : (cs : List Reading) (fs : List Entry) → AllByRecursion Proper cs →
    (k : Keyword) (ns : List ℕ) → Writable (k, ns) → follows 0 (turn_of k) ≡ true → entry_asked [] (entry_of k ns) ≡ Ok tt → read_cards (entry_of k ns ∷ []) cs ≡ Ok fs → Whole (card k (Some ns) ∷ cs)
first-case cs fs proper nodes ns w turn asks g =
    let e = two-of ns w.count in
    subst (λ ms. Whole (card nodes (Some ms) ∷ cs)) (sym e) (whole cs (get_or ns 0 0) (get_or ns 1 0) (from-deck _ asks) (after-nodes cs fs (get_or ns 0 0) (get_or ns 1 0) proper g))
first-case cs fs proper branch ns w turn asks g = absurd (false≢true turn)
first-case cs fs proper failed ns w turn asks g = absurd (false≢true turn)
first-case cs fs proper working ns w turn asks g = absurd (false≢true turn)
first-case cs fs proper door ns w turn asks g = absurd (false≢true turn)

whole-deck : (cs : List Reading) (fs : List Entry) → AllByRecursion Proper cs → read_cards [] cs ≡ Ok fs → Whole cs
whole-deck [] fs proper g = absurd (not-ended [] fs 0 refl refl g)
whole-deck (c ∷ cs) fs proper g =
    let a = accepted [] c cs fs g in
    subst (λ x. Whole (x ∷ cs)) (sym a.is) (first-case cs fs proper.1 a.k a.ns (subst Proper a.is proper.0) a.turn a.asks a.next)

read_whole : (r : Answer DeckFault) (cs : List Reading) (fs : List Entry) → AllByRecursion Proper cs → read_if r cs ≡ Ok fs → Whole cs
read_whole (Ok u) cs fs proper g = whole-deck cs fs proper g
read_whole (Err f) cs fs proper g = absurd cc

pub some-plan : (bs : List ℕ) (places : ℕ) (fs : List Entry) → read_bytes places bs ≡ Ok fs → (plan : Plan) × Sound plan × Describes bs plan
unfolding written
some-plan bs places fs g =
    let w = read_whole (bytes_asked places bs) (cards bs) fs (all-proper (lines bs)) g in
    (w.plan, w.sound, w.is ∙ sym (cards-text (plan_cards w.plan) (plan-writable w.plan w.sound)))
