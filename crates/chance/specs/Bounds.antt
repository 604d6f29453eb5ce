-- The bounds of a list of rows, each given by its branch set, in any scale.
use Rattle.std.specs.Prelude.{ℕ, suc, Bool, cond, List, [], ◌∷◌, ◌++◌, map, fold, bit_or}
use Rattle.sets.specs.Masks.{has}
use Rattle.network.specs.declared.rating.Rating.{Rating}
use Rattle.scale.specs.Arithmetic.{Arithmetic}

-- the ratings of the branches of a set, in rising number, where the list has those of the branches from k on
unfoldable pub chosen : ℕ → ℕ → List Rating → List Rating
chosen set k [] = []
chosen set k (r ∷ rs) = cond (has set k) (r ∷ chosen set (suc k) rs) (chosen set (suc k) rs)

-- both sets united, of each pair of rows i below j, by j and then by i; `before` are the rows in front of the list
unfoldable pub united : List ℕ → List ℕ → List ℕ
united before [] = []
united before (row ∷ rows) = map (λ earlier. bit_or earlier row) before ++ united (before ++ row ∷ []) rows

-- every prefix of one row or more
unfoldable pub prefixes : List ℕ → List (List ℕ)
prefixes [] = []
prefixes (row ∷ rows) = (row ∷ []) ∷ map (λ prefix. row ∷ prefix) (prefixes rows)

module _ {Num : Type 0} (s : Arithmetic Num) where
  -- m, unless n is strictly larger
  abbrev pub larger : Num → Num → Num
  larger m n = cond (s.at_most n m) m n

  -- the largest of a list, and the first of those; 0 of none
  unfoldable pub largest : List Num → Num
  largest [] = s.zero
  largest (n ∷ ns) = fold larger n ns

  module _ (ratings : List Rating) where
    -- the product of a branch set starts at 1 and takes its branches in rising number
    unfoldable pub product_down : ℕ → Num
    product_down set = fold s.times_down s.one (chosen set 0 ratings)

    unfoldable pub product_up : ℕ → Num
    product_up set = fold s.times_up s.one (chosen set 0 ratings)

    -- a sum with the up products of some sets added
    unfoldable pub added_up : Num → List ℕ → Num
    added_up sum sets = fold s.sum_up sum (map product_up sets)

    -- S1: the down sum of the rows' down products
    unfoldable pub row_sum : List ℕ → Num
    row_sum rows = fold s.sum_down s.zero (map product_down rows)

    -- S2: the up sum of the up products of each pair of rows
    abbrev pub pair_sum : List ℕ → Num
    pair_sum rows = added_up s.zero (united [] rows)

    abbrev pub difference : List ℕ → Num
    difference rows = s.less_down (row_sum rows) (pair_sum rows)

    -- the largest down difference S1 − S2 over all prefixes
    unfoldable pub low : List ℕ → Num
    low rows = largest (map difference (prefixes rows))

    -- the up sum of the rows' up products, and 1 before the search is finished
    unfoldable pub high : Bool → List ℕ → Num
    high finished rows = cond finished (added_up s.zero rows) s.one
