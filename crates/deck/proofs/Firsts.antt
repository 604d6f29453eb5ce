-- A deck is refused with the first of its questions that is answered no.
use Rattle.std.proofs.Common.{◌≡◌, ℕ, ◌+◌, Bool, true, false, cond, ◌&&◌, leb, ltb, eqb, List, [], ◌∷◌, ◌++◌, length, Some, None, Option, Ok, Err, Result, sym, refl, ap, ◌∙◌}
use Rattle.refusals.specs.declared.layer.Refusal.{Refusal}
use Rattle.refusals.specs.declared.layer.Layer.TheVariants as layers
use Rattle.refusals.specs.declared.deck_fault.DeckFault.{DeckFault}
use Rattle.refusals.specs.declared.deck_fault.DeckFault.TheVariants.{Table, Bytes, Turn, Mark}
use Rattle.refusals.specs.declared.deck_fault.DeckRefusal.{DeckRefusal}
use Rattle.refusals.specs.declared.network_fault.NetworkFault.TheVariants.{NodeCount, BranchCount, BadEnd, BadRating}
use Rattle.refusals.specs.declared.study_fault.StudyFault.TheVariants.{Head}
use Rattle.refusals.specs.Questions.{Question, first_no, refusal_of}
use Rattle.refusals.specs.Refusals.{deck_refusal}
use Rattle.network.specs.Questions.{Answer, asked, and_then}
use Rattle.network.specs.Ratings.{rating_fits}
use Rattle.network.specs.Refusing.{node_count_question, branch_count_question, rating_question, head_question}
use Rattle.deck.specs.Cards.{Reading, unknown, card, cards}
use Rattle.deck.specs.Decks.{Entry, nodes_are, branch_is, mark_is, door_is, entry_of, entry_asked, entered, counted, to_study, to_deck, nodes_in, branches_in, last_turn, follows, turn_of, card_after, read_cards, read_if, read_bytes, ends_line, refused, deck_read}
use Rattle.deck.specs.Refusing.{deck_question, bytes_questions, entry_questions, line_questions, entry_on, on_line, lines_questions, deck_questions, first_no_on, refusal_on}
use Rattle.deck.proofs.Steps.{answer, from-turn, from-entered}

-- questions about one line, and then others
abbrev then_on : ℕ → Option Refusal → Option (ℕ × Refusal) → Option (ℕ × Refusal)
then_on n None later = later
then_on n (Some r) later = Some (n, r)

cond-then : (n : ℕ) (holds : Bool) (o : Option Refusal) (r : Refusal) (later : Option (ℕ × Refusal)) → cond holds (then_on n o later) (Some (n, r)) ≡ then_on n (cond holds o (Some r)) later
cond-then n true o r later = refl
cond-then n false o r later = refl

first-append : (n : ℕ) (qs : List Question) (rest : List (ℕ × Question)) → first_no_on (on_line n qs ++ rest) ≡ then_on n (first_no qs) (first_no_on rest)
first-append n [] rest = refl
first-append n (q ∷ qs) rest =
    let told : Refusal = record { number = q.number; layer = q.layer; place = q.place } in
    ap (λ o. cond q.yes o (Some (n, told))) (first-append n qs rest) ∙ cond-then n q.yes (first_no qs) told (first_no_on rest)

-- the questions of an entry

-- a question of the record q, whose yes is replaced
abbrev with_yes : Bool → Question → Question
with_yes holds q = record { number = q.number; layer = q.layer; place = q.place; yes = holds }

nodes-first : (n h : ℕ) (a b : Bool) → refusal_of deck_refusal (to_deck (and_then (to_study (asked a NodeCount)) (asked b Head))) ≡ first_no (with_yes a (node_count_question n) ∷ with_yes b (head_question n h) ∷ [])
nodes-first n h true true = refl
nodes-first n h true false = refl
nodes-first n h false b = refl

branch-first : (n k m : ℕ) (a b c : Bool) → refusal_of deck_refusal (to_deck (to_study (and_then (asked a BranchCount) (and_then (asked b (BadEnd k)) (asked c (BadRating k))))))
    ≡ first_no (with_yes a (branch_count_question n) ∷ with_yes b (record { number = 3; layer = layers.Network; place = k; yes = b }) ∷ with_yes c (rating_question k m m) ∷ [])
branch-first n k m true true true = refl
branch-first n k m true true false = refl
branch-first n k m true false c = refl
branch-first n k m false b c = refl

mark-first : (a : Bool) → refusal_of deck_refusal (asked a Mark) ≡ first_no (deck_question 19 a ∷ [])
mark-first true = refl
mark-first false = refl

entry-first : (es : List Entry) (e : Entry) → refusal_of deck_refusal (entry_asked es e) ≡ first_no (entry_questions es e)
entry-first es (nodes_are n h) = nodes-first n h (leb 2 n && leb n 32) (ltb h n)
entry-first es (branch_is b) =
    let k = length (branches_in es) in
    branch-first (k + 1) k b.mantissa (leb 1 (k + 1) && leb (k + 1) 64) (ltb b.from (nodes_in es) && ltb b.to (nodes_in es)) (rating_fits b.mantissa b.exponent)
entry-first es (mark_is k c) = mark-first (ltb k (length (branches_in es)))
entry-first es (door_is d) = refl

-- the questions of a line

entered-same : (e : Entry) (r : Answer DeckFault) → refusal_of deck_refusal (entered e r) ≡ refusal_of deck_refusal r
entered-same e (Ok u) = refl
entered-same e (Err f) = refl

turn-first : (b : Bool) (x : Result Entry DeckFault) (qs : List Question) → refusal_of deck_refusal x ≡ first_no qs → refusal_of deck_refusal (cond b x (Err Turn)) ≡ first_no (deck_question 17 b ∷ qs)
turn-first true x qs e = e
turn-first false x qs e = refl

line-first : (es : List Entry) (c : Reading) → refusal_of deck_refusal (card_after es c) ≡ first_no (line_questions es c)
line-first es unknown = refl
line-first es (card k None) = turn-first (follows (last_turn es) (turn_of k)) (counted es (entry_of k) None) (deck_question 18 false ∷ []) refl
line-first es (card k (Some ns)) =
    turn-first (follows (last_turn es) (turn_of k)) (counted es (entry_of k) (Some ns)) (deck_question 18 true ∷ entry_questions es (entry_of k ns))
    (entered-same (entry_of k ns) (entry_asked es (entry_of k ns)) ∙ entry-first es (entry_of k ns))

-- an accepted line enters what it says
enters : (es : List Entry) (c : Reading) (e : Entry) → card_after es c ≡ Ok e → entry_on c ≡ Some e
enters es unknown e h = absurd cc
enters es (card k None) e h = let p : ◌≡◌ {A = Result Entry DeckFault} (counted es (entry_of k) None) (Ok e) = (from-turn (follows (last_turn es) (turn_of k)) _ Turn e h).1 in absurd cc
enters es (card k (Some ns)) e h = ap Some (from-entered (entry_of k ns) (entry_asked es (entry_of k ns)) e (from-turn _ _ _ e h).1).0

-- line by line

abbrev later : List Entry → List Reading → Option Entry → List (ℕ × Question)
later es cs None = []
later es cs (Some e) = lines_questions (e ∷ es) cs

step : (es : List Entry) (c : Reading) (cs : List Reading) → ((fs : List Entry) → refusal_on (read_cards fs cs) ≡ first_no_on (lines_questions fs cs)) → (o : Result Entry DeckFault) → card_after es c ≡ o
    → refusal_on (answer es cs (length es + 1) o) ≡ then_on (length es + 1) (refusal_of deck_refusal o) (first_no_on (later es cs (entry_on c)))
unfolding answer
step es c cs rest (Ok e) h = rest (e ∷ es) ∙ ap (λ o. first_no_on (later es cs o)) (sym (enters es c e h))
step es c cs rest (Err f) h = refl

end-first : (b : Bool) (es : List Entry) (n : ℕ) → refusal_on (cond b (Ok es) (Err (refused Turn n))) ≡ first_no_on (on_line n (deck_question 17 b ∷ []))
end-first true es n = refl
end-first false es n = refl

cards-first : (cs : List Reading) (es : List Entry) → refusal_on (read_cards es cs) ≡ first_no_on (lines_questions es cs)
unfolding answer
cards-first [] es = end-first (eqb (last_turn es) 4) es (length es + 1)
cards-first (c ∷ cs) es =
    step es c cs (cards-first cs) (card_after es c) refl
    ∙ ap (λ o. then_on (length es + 1) o (first_no_on (later es cs (entry_on c)))) (line-first es c)
    ∙ sym (first-append (length es + 1) (line_questions es c) (later es cs (entry_on c)))

bytes-first : (a b : Bool) (cs : List Reading) → refusal_on (read_if (and_then (asked a Table) (asked b Bytes)) cs) ≡ then_on 0 (first_no (deck_question 14 a ∷ deck_question 15 b ∷ [])) (refusal_on (read_cards [] cs))
bytes-first true true cs = refl
bytes-first true false cs = refl
bytes-first false b cs = refl

read-same : (r : Result (List Entry) DeckRefusal) → refusal_on (deck_read r) ≡ refusal_on r
read-same (Ok es) = refl
read-same (Err f) = refl

pub deck-first : (places : ℕ) (bs : List ℕ) → refusal_on (deck_read (read_bytes places bs)) ≡ first_no_on (deck_questions places bs)
deck-first places bs =
    read-same (read_bytes places bs)
    ∙ bytes-first (leb 64 places) (leb (length bs) 65536 && ends_line bs) (cards bs)
    ∙ ap (then_on 0 (first_no (bytes_questions places bs))) (cards-first (cards bs) [])
    ∙ sym (first-append 0 (bytes_questions places bs) (lines_questions [] (cards bs)))
