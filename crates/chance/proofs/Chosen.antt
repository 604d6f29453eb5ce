-- The ratings of a set's members, by the list of the members.
use Rattle.std.proofs.Common.{◌≡◌, ℕ, zero, suc, ◌+◌, ◌≤◌, Bool, true, false, cond, List, [], ◌∷◌, ◌++◌, length, take, Some, None, Option, sym, refl, ap, ◌∙◌, append-nil, add-one, take_all, length-take, arith, inl, inr}
use Rattle.std.specs.List.{slice_get, filter_map, cons_option}
use Rattle.std.proofs.lemmas.List.Elements.{filter_map-append}
use Rattle.std.proofs.lemmas.Option.{slice_get_cases}
use Rattle.sets.specs.Masks.{has, members}
use Rattle.sets.proofs.Nth.{take_nth}
use Rattle.network.specs.declared.rating.Rating.{Rating}
use Rattle.chance.specs.Bounds.{chosen}

module _ (S : ℕ) where
  -- one more rating
  chosen-push : (k : ℕ) (rs : List Rating) (r : Rating) → chosen S k (rs ++ r ∷ []) ≡ chosen S k rs ++ cond (has S (k + length rs)) (r ∷ []) []
  unfolding chosen
  chosen-push k [] r = let e : k + 0 ≡ k = omega arith in rw e refl
  chosen-push k (q ∷ rs) r = let e : k + suc (length rs) ≡ suc k + length rs = omega arith in rw (e, chosen-push (suc k) rs r) (joined (has S k) (chosen S (suc k) rs) (cond (has S (suc k + length rs)) (r ∷ []) []))
    where
      joined : (b : Bool) (xs ys : List Rating) → cond b (q ∷ (xs ++ ys)) (xs ++ ys) ≡ cond b (q ∷ xs) xs ++ ys
      joined true xs ys = refl
      joined false xs ys = refl

  module _ (rs : List Rating) where
    -- the rating of n, where n is a member
    read : (n : ℕ) (b : Bool) (o : Option Rating) → slice_get rs n ≡ o → filter_map (slice_get rs) (cond b (n ∷ []) []) ≡ cond b (cons_option o []) []
    read n true o e = ap (λ p. cons_option p []) e
    read n false o e = refl

    no-rating : (b : Bool) → ◌≡◌ {A = List Rating} (cond b [] []) []
    no-rating true = refl
    no-rating false = refl

    one-more : (n : ℕ) → chosen S 0 (take n rs) ++ filter_map (slice_get rs) (cond (has S n) (n ∷ []) []) ≡ chosen S 0 (take (suc n) rs)
    one-more n = elim (slice_get_cases rs n).1 [
      | inl (r, within, found, _) ↦
          let more : take (suc n) rs ≡ take n rs ++ r ∷ [] = rw (← add-one n) (take_nth rs n r (sym found)) in
          let l : 0 + length (take n rs) ≡ n = simp length-take (omega arith) in
          let push = chosen-push 0 (take n rs) r in
          rw (read n (has S n) (Some r) found, more, push, l) refl
      | inr (past, none) ↦
          let all : take n rs ≡ rs = take_all n rs past in
          let all-too : take (suc n) rs ≡ rs = take_all (suc n) rs (omega arith) in
          rw (read n (has S n) None none, no-rating (has S n), append-nil, all, all-too) refl
    ]

    -- those of the members below n are those that the first n ratings hold
    pub chosen-members : (n : ℕ) → filter_map (slice_get rs) (members n S) ≡ chosen S 0 (take n rs)
    unfolding members chosen
    chosen-members zero = refl
    chosen-members (suc n) =
        filter_map-append (slice_get rs) (members n S) (cond (has S n) (n ∷ []) []) ∙ ap (λ xs. xs ++ filter_map (slice_get rs) (cond (has S n) (n ∷ []) [])) (chosen-members n) ∙ one-more n

    pub chosen_is : length rs ≤ 64 → filter_map (slice_get rs) (members 64 S) ≡ chosen S 0 rs
    chosen_is few = chosen-members 64 ∙ ap (chosen S 0) (take_all 64 rs few)
