-- An answer refuses with the first of its questions that is answered no.
use Rattle.std.proofs.Common.{◌≡◌, ℕ, ◌+◌, Bool, true, false, cond, ◌&&◌, leb, ltb, List, [], ◌∷◌, length, refl, Some}
use Rattle.refusals.specs.declared.layer.Refusal.{Refusal}
use Rattle.refusals.specs.Questions.{Question, first_no, refusal_of}
use Rattle.refusals.specs.Refusals.{network_refusal}
use Rattle.network.specs.declared.branch.TableRow.{TableRow}
use Rattle.network.specs.Questions.{Answer, asked, and_then, count_asked, rows_asked, list_asked, ring_asked}
use Rattle.refusals.specs.declared.network_fault.NetworkFault.TheVariants.{NodeCount, BranchCount, BadEnd, BadRating}
use Rattle.network.specs.Ratings.{rating_fits}
use Rattle.network.specs.Refusing.{branch_count_question, rating_question, branch_questions, list_questions, ring_questions}

-- one question, and those after it
pub first_asked : {F : Type 0} (tells : F → Refusal) (yes : Bool) (f : F) (rest : Answer F) (qs : List Question) → refusal_of tells rest ≡ first_no qs
    → refusal_of tells (and_then (asked yes f) rest) ≡ cond yes (first_no qs) (Some (tells f))
first_asked tells true f rest qs e = e
first_asked tells false f rest qs e = refl

pub last_asked : {F : Type 0} (tells : F → Refusal) (yes : Bool) (f : F) → refusal_of tells (asked yes f) ≡ cond yes (first_no []) (Some (tells f))
last_asked tells true f = refl
last_asked tells false f = refl

-- two questions in one answer
pub both_asked : {F : Type 0} (tells : F → Refusal) (a b : Bool) (f g : F) (rest : Answer F) (qs : List Question) → refusal_of tells rest ≡ first_no qs
    → refusal_of tells (and_then (and_then (asked a f) (asked b g)) rest) ≡ cond a (cond b (first_no qs) (Some (tells g))) (Some (tells f))
both_asked tells true true f g rest qs e = e
both_asked tells true false f g rest qs e = refl
both_asked tells false b f g rest qs e = refl

branches_first : (n k : ℕ) (rows : List TableRow) → refusal_of network_refusal (rows_asked n k rows) ≡ first_no (branch_questions n k rows)
branches_first n k [] = refl
branches_first n k (row ∷ rows) =
    both_asked network_refusal (ltb row.from n && ltb row.to n) (rating_fits row.mantissa row.exponent) (BadEnd k) (BadRating k) (rows_asked n (k + 1) rows) (branch_questions n (k + 1) rows) (branches_first n (k + 1) rows)

pub list_first : (n : ℕ) (rows : List TableRow) → refusal_of network_refusal (list_asked n rows) ≡ first_no (list_questions n rows)
list_first n rows =
    first_asked network_refusal (leb 2 n && leb n 32) NodeCount (and_then (count_asked (length rows)) (rows_asked n 0 rows)) (branch_count_question (length rows) ∷ branch_questions n 0 rows)
    (first_asked network_refusal (leb 1 (length rows) && leb (length rows) 64) BranchCount (rows_asked n 0 rows) (branch_questions n 0 rows) (branches_first n 0 rows))

pub ring_first : (n m e : ℕ) → refusal_of network_refusal (ring_asked n m e) ≡ first_no (ring_questions n m e)
ring_first n m e =
    first_asked network_refusal (leb 2 n && leb n 32) NodeCount (asked (rating_fits m e) (BadRating 0)) (rating_question 0 m e ∷ []) (last_asked network_refusal (rating_fits m e) (BadRating 0))
