-- The elements that an iterator has given and those that it has left, each with its number.
use Rattle.std.proofs.Common.{◌≡◌, ℕ, ◌+◌, ◌≤◌, List, [], ◌∷◌, length, drop, Some, None, sym, ap, ◌∙◌, inl, inr, arith}
use Rattle.std.specs.List.{slice_get, enumerate_from}
use Rattle.std.proofs.lemmas.List.{drop_all}
use Rattle.std.proofs.lemmas.Option.{slice_get_cases}
use Rattle.sets.proofs.Nth.{drop_nth, none-past}

module _ {X : Type 0} (xs : List X) (k : ℕ) (rest : List (ℕ × X)) (left : enumerate_from k (drop k xs) ≡ rest) where
  pub numbered-more : (x : X) → Some x ≡ slice_get xs k → rest ≡ (k, x) ∷ enumerate_from (k + 1) (drop (k + 1) xs)
  numbered-more x e = sym left ∙ ap (enumerate_from k) (drop_nth xs k x e)

  pub numbered-none : None ≡ slice_get xs k → rest ≡ []
  numbered-none e = sym left ∙ ap (enumerate_from k) (drop_all k xs (none-past xs k (sym e)))

-- the first k elements are given, and the rest are left
pub record Given {X : Type 0} (xs : List X) (k : ℕ) (rest : List (ℕ × X)) : Type 0 where
  pub left : rest ≡ enumerate_from k (drop k xs)
  pub within : k ≤ length xs

pub given_none : {X : Type 0} (xs : List X) (rest : List (ℕ × X)) → rest ≡ enumerate_from 0 xs → Given xs 0 rest
given_none xs rest e = record { left = e; within = omega arith }

-- a call of `next`
module _ {X : Type 0} (xs : List X) (k : ℕ) (rest : List (ℕ × X)) (given : Given xs k rest) where
  pub given-all : rest ≡ [] → k ≡ length xs
  given-all e = elim (slice_get_cases xs k).1 [
    | inl (x, within, found, _) ↦ absurd (let more = numbered-more xs k rest (sym given.left) x (sym found) in let q : [] ≡ (k, x) ∷ enumerate_from (k + 1) (drop (k + 1) xs) = sym e ∙ more in cc)
    | inr (past, _) ↦ omega (arith, given.within)
  ]

  pub given-next : (j : ℕ) (x : X) (rest' : List (ℕ × X)) → rest ≡ (j, x) ∷ rest' → (j ≡ k) × (slice_get xs k ≡ Some x) × Given xs (k + 1) rest'
  given-next j x rest' e = elim (slice_get_cases xs k).1 [
    | inl (y, within, found, _) ↦
        let q : (j, x) ∷ rest' ≡ (k, y) ∷ enumerate_from (k + 1) (drop (k + 1) xs) = sym e ∙ numbered-more xs k rest (sym given.left) y (sym found) in
        let item : ◌≡◌ {A = ℕ × X} (j, x) (k, y) = cc in
        (ap (λ p. p.0) item, found ∙ ap (λ p. Some p.1) (sym item), record { left = cc; within = omega arith })
    | inr (_, none) ↦ absurd (let q : [] ≡ (j, x) ∷ rest' = sym (numbered-none xs k rest (sym given.left) (sym none)) ∙ e in cc)
  ]
