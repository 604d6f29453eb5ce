-- Two ratings of the same numbers are the same, and legal numbers are taken as they are.
use Rattle.std.proofs.Common.{◌≡◌, ℕ, ◌≤◌, true, List, map, is_ok, Some, None, Option, sym, ap, ◌∙◌, arith}
use mathlib.Core.HLevel.{is_prop→PathP}
use native.Mathlib.Bridge.{le_prop}
use Rattle.std.specs.List.{slice_get}
use Rattle.std.specs.Option.{option_map, option_and_then}
use Rattle.std.proofs.lemmas.Bool.{le-leb, and_from, cond-true}
use Rattle.network.specs.declared.rating.Rating.{Rating}
use Rattle.network.specs.declared.branch.TableRow.{TableRow}
use Rattle.sets.proofs.Nth.{nth-map, all-nth}
use Rattle.network.specs.Ratings.{rating_from, checked_rating}
use Rattle.network.specs.Meaning.{rating_of}
use Rattle.network.specs.Questions.{rows_asked}
use Rattle.network.specs.Legality.{Sound, all_sound}

pub same-rating : (r s : Rating) → r.mantissa ≡ s.mantissa → r.exponent ≡ s.exponent → r ≡ s
same-rating r s p q = λ i. record {
  mantissa = p i;
  exponent = q i;
  small = is_prop→PathP (λ j. p j ≤ 1000000000) (λ j. le_prop) r.small s.small i;
  least = is_prop→PathP (λ j. 9 ≤ q j) (λ j. le_prop) r.least s.least i;
  most = is_prop→PathP (λ j. q j ≤ 18) (λ j. le_prop) r.most s.most i;
}

-- a rating is the one of its numbers
pub rating-is : (r : Rating) (m e : ℕ) → r.mantissa ≡ m → r.exponent ≡ e → Some r ≡ checked_rating m e
unfolding rating_from
rating-is r m e p q =
    let fits = and_from _ _ (le-leb m 1000000000 (omega (arith, r.small))) (and_from _ _ (le-leb 9 e (omega (arith, r.least))) (le-leb e 18 (omega (arith, r.most)))) in
    ap Some (same-rating r (rating_from m e) (omega (arith, r.small)) (omega (arith, r.least, r.most))) ∙ sym (cond-true _ _ _ fits)

-- the rating of a row of a sound table
pub listed-rating : (n : ℕ) (rows : List TableRow) → is_ok (rows_asked n 0 rows) ≡ true → (k : ℕ) (row : Option TableRow) → row ≡ slice_get rows k
    → option_and_then (λ r. checked_rating r.mantissa r.exponent) row ≡ slice_get (map rating_of rows) k
listed-rating n rows sound k None e = sym (nth-map rating_of rows k ∙ ap (option_map rating_of) (sym e))
listed-rating n rows sound k (Some row) e =
    let fits = (all-nth (Sound n) rows k row (all_sound n 0 rows sound) (sym e)).1 in
    cond-true _ _ _ fits ∙ sym (nth-map rating_of rows k ∙ ap (option_map rating_of) (sym e))
