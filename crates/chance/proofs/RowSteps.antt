-- The bounds one row at a time.
use Rattle.std.proofs.Common.{◌≡◌, ℕ, suc, ◌+◌, ◌<◌, Bool, cond, eqb, List, [], ◌∷◌, ◌++◌, map, length, get_or, take, fold, Some, None, Option, unwrap_or, sym, refl, ap, ◌∙◌, ap₂, append_assoc, append-nil, map-id, arith}
use Rattle.std.specs.Option.{option_map_or}
use mathlib.Core.List.{map-append, map-map}
use lib.Bits.{bit_or}
use Rattle.std.proofs.lemmas.List.{take_more}
use Rattle.std.proofs.lemmas.List.Sums.{fold-append, fold_push}
use Rattle.std.proofs.lemmas.Bool.{cond-false, ne_eqb}
use Rattle.network.specs.declared.cut.Cut.{Cut}
use Rattle.network.specs.declared.rating.Rating.{Rating}
use Rattle.scale.specs.Arithmetic.{Arithmetic}
use Rattle.chance.specs.Rows.{branch_sets}
use Rattle.chance.specs.Bounds.{united, prefixes, larger, largest, product_down, product_up, added_up, row_sum, pair_sum, difference, low, high}

pub prefixes-append : (rows more : List ℕ) → prefixes (rows ++ more) ≡ prefixes rows ++ map (λ p. rows ++ p) (prefixes more)
unfolding prefixes
prefixes-append [] more = sym (map-id (prefixes more))
prefixes-append (c ∷ rows) more =
    ap (λ ps. (c ∷ []) ∷ ps) (ap (map (λ p. c ∷ p)) (prefixes-append rows more)
    ∙ map-append (λ p. c ∷ p) (prefixes rows) (map (λ p. rows ++ p) (prefixes more))
    ∙ ap (λ ps. map (λ p. c ∷ p) (prefixes rows) ++ ps) (map-map (λ p. c ∷ p) (λ p. rows ++ p) (prefixes more)))

pub united-push : (before rows : List ℕ) (c : ℕ) → united before (rows ++ c ∷ []) ≡ united before rows ++ map (λ d. bit_or d c) (before ++ rows)
unfolding united
united-push before [] c = simp append-nil
united-push before (r ∷ rows) c = rw (united-push (before ++ r ∷ []) rows c) (simp append_assoc)

-- a row read at place j of a list of rows
pub branch_sets-more : (rows : List Cut) (j : ℕ) (row : Cut) → j < length rows → row ≡ get_or rows j row → branch_sets (take (j + 1) rows) ≡ branch_sets (take j rows) ++ row.branches ∷ []
branch_sets-more rows j row h is = ap branch_sets (take_more rows j row h) ∙ rw (← is) (map-append (λ (c : Cut). c.branches) (take j rows) (row ∷ []))

module _ {Num : Type 0} (s : Arithmetic Num) where
  module _ (ratings : List Rating) where
    pub added_none : (sum : Num) → sum ≡ added_up s ratings sum []
    unfolding added_up
    added_none sum = refl

    pub added-append : (sum : Num) (xs ys : List ℕ) → added_up s ratings sum (xs ++ ys) ≡ added_up s ratings (added_up s ratings sum xs) ys
    unfolding added_up
    added-append sum xs ys =
        ap (fold s.sum_up sum) (map-append (product_up s ratings) xs ys) ∙ fold-append s.sum_up sum (map (product_up s ratings) xs) (map (product_up s ratings) ys)

    added-push : (sum : Num) (xs : List ℕ) (c : ℕ) → added_up s ratings sum (xs ++ c ∷ []) ≡ s.sum_up (added_up s ratings sum xs) (product_up s ratings c)
    unfolding added_up
    added-push sum xs c = added-append sum xs (c ∷ [])

    rows-push : (rows : List ℕ) (c : ℕ) → row_sum s ratings (rows ++ c ∷ []) ≡ s.sum_down (row_sum s ratings rows) (product_down s ratings c)
    unfolding row_sum
    rows-push rows c =
        ap (fold s.sum_down s.zero) (map-append (product_down s ratings) rows (c ∷ [])) ∙ fold_push s.sum_down s.zero (map (product_down s ratings) rows) (product_down s ratings c)

    pairs-push : (rows : List ℕ) (c : ℕ) → pair_sum s ratings (rows ++ c ∷ []) ≡ added_up s ratings (pair_sum s ratings rows) (map (λ d. bit_or d c) rows)
    pairs-push rows c = ap (added_up s ratings s.zero) (united-push [] rows c) ∙ added-append s.zero (united [] rows) (map (λ d. bit_or d c) rows)

    pub low-push : (rows : List ℕ) (c : ℕ) → low s ratings (rows ++ c ∷ []) ≡ cond (eqb (length rows) 0) (difference s ratings (rows ++ c ∷ [])) (larger s (low s ratings rows) (difference s ratings (rows ++ c ∷ [])))
    unfolding low prefixes largest
    low-push [] c = refl
    low-push (r ∷ rows) c =
        ap (λ ps. largest s (map (difference s ratings) ps)) (prefixes-append (r ∷ rows) (c ∷ []))
        ∙ ap (largest s) (map-append (difference s ratings) (prefixes (r ∷ rows)) ((r ∷ rows ++ c ∷ []) ∷ []))
        ∙ fold_push (larger s) (difference s ratings (r ∷ [])) (map (difference s ratings) (map (λ p. r ∷ p) (prefixes rows))) (difference s ratings (r ∷ rows ++ c ∷ []))
        ∙ sym (cond-false _ _ _ (ne_eqb (suc (length rows)) 0 (λ e. omega arith)))

    pub rows_none : s.zero ≡ row_sum s ratings []
    unfolding row_sum
    rows_none = refl

    pub pairs-none : s.zero ≡ pair_sum s ratings []
    unfolding added_up united
    pairs-none = refl

    pub high_is : (finished : Bool) (rows : List ℕ) {sum n : Num} → n ≡ cond finished sum s.one → sum ≡ added_up s ratings s.zero rows → n ≡ high s ratings finished rows
    unfolding high
    high_is finished rows e f = e ∙ ap (λ n. cond finished n s.one) f

    -- the largest difference of the prefixes of the rows, if there are any
    abbrev pub best_of : List ℕ → Option Num
    best_of [] = None
    best_of (row ∷ rows) = Some (low s ratings (row ∷ rows))

    -- one more row: the first difference is the best, and each later one is compared with the best
    best-push : (rows : List ℕ) (c : ℕ)
        → best_of (rows ++ c ∷ []) ≡ Some (option_map_or (λ best. larger s best (difference s ratings (rows ++ c ∷ []))) (best_of rows) (difference s ratings (rows ++ c ∷ [])))
    unfolding low prefixes largest
    best-push [] c = refl
    best-push (r ∷ rows) c = ap Some (low-push (r ∷ rows) c ∙ cond-false _ _ _ (ne_eqb (suc (length rows)) 0 (λ e. omega arith)))

    -- one row more in a loop over the rows
    module _ (before : List ℕ) (c : ℕ) where
      pub rows_more : {sum p r : Num} → r ≡ s.sum_down sum p → p ≡ product_down s ratings c → sum ≡ row_sum s ratings before → r ≡ row_sum s ratings (before ++ c ∷ [])
      rows_more e f g = e ∙ ap₂ s.sum_down g f ∙ sym (rows-push before c)

      pub pairs-more : {sum r : Num} → r ≡ added_up s ratings sum (map (λ d. bit_or d c) before) → sum ≡ pair_sum s ratings before → r ≡ pair_sum s ratings (before ++ c ∷ [])
      pairs-more e f = e ∙ ap (λ n. added_up s ratings n (map (λ d. bit_or d c) before)) f ∙ sym (pairs-push before c)

      pub best-more : {best : Option Num} {d p q r : Num} → r ≡ option_map_or (λ found. larger s found d) best d → d ≡ s.less_down p q
          → best ≡ best_of before → p ≡ row_sum s ratings (before ++ c ∷ []) → q ≡ pair_sum s ratings (before ++ c ∷ [])
          → Some r ≡ best_of (before ++ c ∷ [])
      best-more e f b g h =
          ap Some (e ∙ ap₂ (λ o n. option_map_or (λ found. larger s found n) o n) b (f ∙ ap₂ s.less_down g h)) ∙ sym (best-push before c)

      pub high-more : {sum p r : Num} → r ≡ s.sum_up sum p → p ≡ product_up s ratings c → sum ≡ added_up s ratings s.zero before → r ≡ added_up s ratings s.zero (before ++ c ∷ [])
      high-more e f g = e ∙ ap₂ s.sum_up g f ∙ sym (added-push s.zero before c)

    -- one pair more in a loop over the earlier rows, each united by f
    pub pair-more : (f : ℕ → ℕ) (before : List ℕ) (c : ℕ) (start : Num) {sum r : Num} → r ≡ s.sum_up sum (product_up s ratings (f c))
        → sum ≡ added_up s ratings start (map f before) → r ≡ added_up s ratings start (map f (before ++ c ∷ []))
    pair-more f before c start e a =
        e ∙ ap (λ n. s.sum_up n (product_up s ratings (f c))) a ∙ sym (rw (map-append f before (c ∷ [])) (added-push start (map f before) (f c)))

    pub low-none : s.zero ≡ low s ratings []
    unfolding low prefixes largest
    low-none = refl

    pub best_is : (rows : List ℕ) → unwrap_or (best_of rows) s.zero ≡ low s ratings rows
    best_is [] = low-none
    best_is (row ∷ rows) = refl
