-- The last mark on a branch holds.
use Rattle.std.proofs.Common.{◌≡◌, ℕ, zero, suc, List, [], ◌∷◌, ◌++◌, length, Some, refl, ap, ◌∙◌, ⊎_elim}
use Rattle.std.specs.List.{slice_get}
use Rattle.std.proofs.lemmas.Bool.{cases_eq}
use Rattle.network.specs.declared.branch.TableRow.{TableRow}
use Rattle.network.specs.declared.branch.Condition.{Condition}
use Rattle.deck.specs.Decks.{with_condition, marked}
use Rattle.deck.specs.Laws.{applied, Unmarked}
use Rattle.deck.proofs.Drafts.{length_marked}

pub length-applied : (marks : List (ℕ × Condition)) (rows : List TableRow) → length (applied marks rows) ≡ length rows
length-applied [] rows = refl
length-applied (mark ∷ marks) rows = length-applied marks (marked mark.0 mark.1 rows) ∙ length_marked mark.0 mark.1 rows

nth-other : (j k : ℕ) (c : Condition) (rows : List TableRow) → (j ≡ k → ⊥) → slice_get (marked j c rows) k ≡ slice_get rows k
nth-other j k c [] ne = refl
nth-other zero zero c (row ∷ rows) ne = absurd (ne refl)
nth-other zero (suc k) c (row ∷ rows) ne = refl
nth-other (suc j) zero c (row ∷ rows) ne = refl
nth-other (suc j) (suc k) c (row ∷ rows) ne = nth-other j k c rows (λ e. ne (ap suc e))

nth-same : (k : ℕ) (c : Condition) (rows : List TableRow) (row : TableRow) → slice_get rows k ≡ Some row → slice_get (marked k c rows) k ≡ Some (with_condition c row)
nth-same k c [] row e = absurd cc
nth-same zero c (first ∷ rows) row e = let is : first ≡ row = cc in ap (λ r. Some (with_condition c r)) is
nth-same (suc k) c (first ∷ rows) row e = nth-same k c rows row e

pub unmarked-stays : (k : ℕ) (marks : List (ℕ × Condition)) (rows : List TableRow) → Unmarked k marks → slice_get (applied marks rows) k ≡ slice_get rows k
unmarked-stays k [] rows un = refl
unmarked-stays k (mark ∷ marks) rows un = unmarked-stays k marks (marked mark.0 mark.1 rows) un.1 ∙ nth-other mark.0 k mark.1 rows un.0

pub last-holds : (k : ℕ) (c : Condition) (earlier later : List (ℕ × Condition)) → Unmarked k later → (rows : List TableRow) (row : TableRow) → slice_get rows k ≡ Some row → slice_get (applied (earlier ++ (k, c) ∷ later) rows) k ≡ Some (with_condition c row)
last-holds k c [] later un rows row e = unmarked-stays k later (marked k c rows) un ∙ nth-same k c rows row e
last-holds k c (mark ∷ earlier) later un rows row e =
    ⊎_elim
    (λ (same : mark.0 ≡ k). last-holds k c earlier later un (marked mark.0 mark.1 rows) (with_condition mark.1 row) (ap (λ j. slice_get (marked j mark.1 rows) k) same ∙ nth-same k mark.1 rows row e))
    (λ ne. last-holds k c earlier later un (marked mark.0 mark.1 rows) row (nth-other mark.0 k mark.1 rows ne ∙ e))
    (cases_eq mark.0 k)
