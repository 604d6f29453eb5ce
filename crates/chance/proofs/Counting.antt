-- Inclusion and exclusion up to pairs: of the rows within a set, those less the pairs are at most 1.
use Rattle.std.proofs.Common.{◌≡◌, ℕ, zero, suc, ◌+◌, ◌*◌, ◌<◌, ◌≤◌, ◌⊎◌, List, [], ◌∷◌, ◌++◌, map, length, get_or, refl, inl, inr, arith}
use lib.Bits.{bit_or}
use Rattle.std.specs.List.{AllByRecursion}
use Rattle.chance.specs.Bounds.{united}

abbrev pub total : (ℕ → ℕ) → List ℕ → ℕ
total f [] = 0
total f (x ∷ xs) = f x + total f xs

pub total-append : (f : ℕ → ℕ) (xs ys : List ℕ) → total f (xs ++ ys) ≡ total f xs + total f ys
total-append f [] ys = omega arith
total-append f (x ∷ xs) ys = omega (arith, total-append f xs ys)

pub at-le-total : (f : ℕ → ℕ) (xs : List ℕ) (k : ℕ) → k < length xs → f (get_or xs k 0) ≤ total f xs
at-le-total f [] k h = absurd (omega arith)
at-le-total f (x ∷ xs) zero h = omega arith
at-le-total f (x ∷ xs) (suc k) h = let i = at-le-total f xs k (omega arith) in omega arith

zero-or-more : (n : ℕ) → (n ≡ 0) ⊎ (1 ≤ n)
zero-or-more zero = inl refl
zero-or-more (suc n) = inr (omega arith)

module _ (f : ℕ → ℕ) (both : (c d : ℕ) → f (bit_or c d) ≡ f c * f d) where
  total-with : (before : List ℕ) (c : ℕ) → total f (map (λ d. bit_or d c) before) ≡ total f before * f c
  total-with [] c = omega arith
  total-with (d ∷ ds) c = omega (arith, both d c, total-with ds c)

  -- with a row within the set before them, the rows are no more than the pairs
  paired : (small : (c : ℕ) → f c ≤ 1) (before rows : List ℕ) → 1 ≤ total f before → total f rows ≤ total f (united before rows)
  unfolding united
  paired small before [] h = omega arith
  paired small before (c ∷ rows) h =
      let i = paired small (before ++ c ∷ []) rows (omega (arith, total-append f before (c ∷ []))) in
      let k : f c ≤ total f before * f c = more (f c) (total f before) (small c) h in
      omega (arith, total-append f (map (λ d. bit_or d c) before) (united (before ++ c ∷ []) rows), total-with before c)
    where
      more : (x n : ℕ) → x ≤ 1 → 1 ≤ n → x ≤ n * x
      more zero n p q = omega arith
      more (suc zero) n p q = omega arith
      more (suc (suc x)) n p q = absurd (omega arith)

  pub counted : (small : (c : ℕ) → f c ≤ 1) (t : ℕ) (before rows : List ℕ) → AllByRecursion (λ c. f c ≤ t) rows
      → total f rows ≤ t + total f (united before rows)
  unfolding united
  counted small t before [] h = omega arith
  counted small t before (c ∷ rows) h =
      let i = counted small t (before ++ c ∷ []) rows h.1 in
      let k = paired small (before ++ c ∷ []) rows in
      let e = total-append f (map (λ d. bit_or d c) before) (united (before ++ c ∷ []) rows) in
      let l = total-append f before (c ∷ []) in
      elim (zero-or-more (f c)) [ inl z ↦ omega arith | inr o ↦ omega (arith, k (omega arith), h.0) ]
