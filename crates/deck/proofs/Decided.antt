-- The cards up to a refused one decide.
use Rattle.std.proofs.Common.{◌≡◌, ℕ, zero, suc, pred, ◌+◌, ◌≤◌, Bool, true, false, cond, eqb, List, [], ◌∷◌, length, take, Ok, Err, Result, sym, refl, ap, ◌∙◌, subst, arith}
use Rattle.refusals.specs.declared.deck_fault.DeckFault.{DeckFault}
use Rattle.refusals.specs.declared.deck_fault.DeckFault.TheVariants.{Turn}
use Rattle.refusals.specs.declared.deck_fault.DeckRefusal.{DeckRefusal}
use Rattle.network.specs.Questions.{Answer}
use Rattle.network.specs.declared.branch.TableRow.{TableRow}
use Rattle.deck.specs.Cards.{Reading, cards}
use Rattle.deck.specs.Decks.{Entry, last_turn, card_after, read_cards, read_if, read_bytes, bytes_asked, refused, deck_read, table_after}
use Rattle.deck.proofs.Steps.{answer}

not-ended : (b : Bool) (es : List Entry) (n : ℕ) (r : DeckRefusal) → cond b (Ok es) (Err (refused Turn n)) ≡ Err r → n ≡ r.line
not-ended true es n r h = absurd cc
not-ended false es n r h = let e : refused Turn n ≡ r = cc in ap (λ x. x.line) e

-- a refusal is at the next card or later
past-step : (cs : List Reading) → ((es : List Entry) (r : DeckRefusal) → read_cards es cs ≡ Err r → length es + 1 ≤ r.line) → (es : List Entry) (r : DeckRefusal) (o : Result Entry DeckFault) → answer es cs (length es + 1) o ≡ Err r → length es + 1 ≤ r.line
unfolding answer
past-step cs rest es r (Ok e) h = let l = rest (e ∷ es) r h in omega arith
past-step cs rest es r (Err f) h = let e : refused f (length es + 1) ≡ r = cc in omega (arith, ap (λ x. x.line) e)

line-past : (cs : List Reading) (es : List Entry) (r : DeckRefusal) → read_cards es cs ≡ Err r → length es + 1 ≤ r.line
unfolding answer
line-past [] es r h = omega (arith, not-ended (eqb (last_turn es) 4) es (length es + 1) r h)
line-past (c ∷ cs) es r h = past-step cs (line-past cs) es r (card_after es c) h

-- the refused card is number k from here, counted from 0
Decided : List Reading → Type 0
Decided cs = (ds : List Reading) (es : List Entry) (r : DeckRefusal) (k : ℕ) → read_cards es cs ≡ Err r → r.line ≡ length es + 1 + k → take (suc k) cs ≡ take (suc k) ds → read_cards es ds ≡ Err r

decided-step : (cs ds : List Reading) → Decided cs → (es : List Entry) (r : DeckRefusal) (k : ℕ) (o : Result Entry DeckFault) → answer es cs (length es + 1) o ≡ Err r → r.line ≡ length es + 1 + k → take k cs ≡ take k ds → answer es ds (length es + 1) o ≡ Err r
unfolding answer Decided
decided-step cs ds rest es r zero (Ok e) h at same = let l = line-past cs (e ∷ es) r h in absurd (omega arith)
decided-step cs ds rest es r (suc k) (Ok e) h at same = rest ds (e ∷ es) r k h (omega arith) same
decided-step cs ds rest es r k (Err f) h at same = h

decided : (cs : List Reading) → Decided cs
unfolding answer Decided
decided [] [] es r k h at same = h
decided [] (d ∷ ds) es r k h at same = absurd cc
decided (c ∷ cs) [] es r k h at same = absurd cc
decided (c ∷ cs) (d ∷ ds) es r k h at same =
    let first : c ≡ d = cc in
    let more : take k cs ≡ take k ds = cc in
    ap (λ x. read_cards es (x ∷ ds)) (sym first) ∙ decided-step cs ds (decided cs) es r k (card_after es c) h at more

read-decided : (a : Answer DeckFault) (cs ds : List Reading) (r : DeckRefusal) → read_if a cs ≡ Err r → take r.line cs ≡ take r.line ds → read_if a ds ≡ Err r
unfolding Decided
read-decided (Ok u) cs ds r h same =
    let l = line-past cs [] r h in
    let k = pred r.line in
    let at : r.line ≡ suc k = omega arith in
    decided cs ds [] r k h (omega arith) (subst (λ n. take n cs ≡ take n ds) at same)
read-decided (Err f) cs ds r h same = h

from-refused : (o : Result (List Entry) DeckRefusal) (r : DeckRefusal) → deck_read o ≡ Err r → o ≡ Err r
from-refused (Ok es) r h = absurd cc
from-refused (Err f) r h = let e : f ≡ r = cc in ap Err e

pub up-to-the-line : (bs others : List ℕ) (places : ℕ) (r : DeckRefusal) → deck_read (read_bytes places bs) ≡ Err r → bytes_asked places others ≡ bytes_asked places bs → take r.line (cards others) ≡ take r.line (cards bs) → Err r ≡ deck_read (read_bytes places others)
up-to-the-line bs others places r h asks same =
    sym (ap deck_read (ap (λ a. read_if a (cards others)) asks ∙ read-decided (bytes_asked places bs) (cards bs) (cards others) r (from-refused (read_bytes places bs) r h) (sym same)))

pub table_kept : (o : Result (List Entry) DeckRefusal) (table : List TableRow) (r : DeckRefusal) → deck_read o ≡ Err r → table_after o table ≡ table
table_kept (Ok es) table r h = absurd cc
table_kept (Err f) table r h = refl
