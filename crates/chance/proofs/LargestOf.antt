-- The low bound is the difference of the shortest prefix that has the largest.
use Rattle.std.proofs.Common.{◌≡◌, ℕ, zero, suc, ◌*◌, ◌<◌, ◌≤◌, Bool, true, false, cond, eqb, List, [], ◌∷◌, ◌++◌, length, get_or, take, sym, refl, ap, ◌∙◌, subst, ⊎_elim, add-one, arith, length-take, take_all}
use Rattle.std.proofs.lemmas.List.{take_more}
use Rattle.std.proofs.lemmas.Bool.{cases_lt, cond-false, ne_eqb}
use Rattle.sets.proofs.Members.{clash}
use Rattle.network.specs.declared.rating.Rating.{Rating}
use Rattle.scale.specs.Fractions.{◌≤ᶠ◌}
use Rattle.scale.specs.Arithmetic.{Arithmetic, Rounded}
use Rattle.scale.specs.FractionOrder.{at-most-trans}
use Rattle.chance.specs.Bounds.{larger, low}
use Rattle.chance.specs.Largest.{after, FirstLargest}
use Rattle.chance.proofs.RowSteps.{low-push, low-none}

module _ {Num : Type 0} (s : Arithmetic Num) (law : Rounded s) (ratings : List Rating) (rows : List ℕ) where
  -- the first largest of the first n differences
  record Best (n : ℕ) (l : Num) : Type 0 where
    at : ℕ
    within : at < n
    is : l ≡ after s ratings rows at
    first : (i : ℕ) → i < at → s.value l ≤ᶠ s.value (after s ratings rows i) → ⊥
    over : (i : ℕ) → i < n → s.value (after s ratings rows i) ≤ᶠ s.value l

  same-best : (n : ℕ) (l m : Num) → m ≡ l → Best n l → Best n m
  same-best n l m e b = subst (Best n) (sym e) b

  -- one difference more: the best stays, or is strictly passed
  kept : (n : ℕ) (l : Num) → Best n l → s.value (after s ratings rows n) ≤ᶠ s.value l → Best (suc n) l
  kept n l b h = record {
    at = b.at;
    within = omega (arith, b.within);
    is = b.is;
    first = b.first;
    over = λ i k. ⊎_elim (λ (z : i < n). b.over i z)
        (λ (z : n ≤ i). let e : i ≡ n = omega arith in subst (λ j. s.value (after s ratings rows j) ≤ᶠ s.value l) (sym e) h) (cases_lt i n);
  }

  passed : (n : ℕ) (l : Num) → Best n l → (s.value (after s ratings rows n) ≤ᶠ s.value l → ⊥) → Best (suc n) (after s ratings rows n)
  passed n l b h =
      let d = after s ratings rows n in
      let up : s.value l ≤ᶠ s.value d =
      ⊎_elim (λ z. absurd (h (omega arith))) (λ z. z) (cases_lt ((s.value d).top * (s.value l).under) ((s.value l).top * (s.value d).under)) in
      record {
        at = n;
        within = omega arith;
        is = refl;
        first = λ i k u. h (at-most-trans (s.value d) (s.value (after s ratings rows i)) (s.value l) u (b.over i k));
        over = λ i k. ⊎_elim (λ (z : i < n). at-most-trans (s.value (after s ratings rows i)) (s.value l) (s.value d) (b.over i z) up)
            (λ (z : n ≤ i). let e : i ≡ n = omega arith in subst (λ j. s.value (after s ratings rows j) ≤ᶠ s.value d) (sym e) (omega arith)) (cases_lt i n);
      }

  next : (n : ℕ) (l : Num) → Best n l → (t : Bool) → s.at_most (after s ratings rows n) l ≡ t → Best (suc n) (cond t l (after s ratings rows n))
  next n l b true e = kept n l b (law.at_most_only_if _ _ e)
  next n l b false e = passed n l b (λ h. clash e (law.at_most_if _ _ h))

  step : (j : ℕ) → j < length rows → low s ratings (take (suc j) rows) ≡ cond (eqb j 0) (after s ratings rows j) (larger s (low s ratings (take j rows)) (after s ratings rows j))
  step j h =
      let l : length (take j rows) ≡ j = simp length-take (omega arith) in
      let more : take (suc j) rows ≡ take j rows ++ get_or rows j 0 ∷ [] = ap (λ n. take n rows) (sym (add-one j)) ∙ take_more rows j 0 h in
      rw more (low-push s ratings (take j rows) (get_or rows j 0) ∙ rw l)

  best : (j : ℕ) → j < length rows → Best (suc j) (low s ratings (take (suc j) rows))
  best zero h = same-best 1 (after s ratings rows 0) _ (step 0 h) (record {
    at = 0;
    within = omega arith;
    is = refl;
    first = λ i k u. absurd (omega arith);
    over = λ i k. let e : i ≡ 0 = omega arith in subst (λ j. s.value (after s ratings rows j) ≤ᶠ s.value (after s ratings rows 0)) (sym e) (omega arith);
  })
  best (suc j) h =
      let l = low s ratings (take (suc j) rows) in
      let d = after s ratings rows (suc j) in
      same-best (suc (suc j)) (larger s l d) _ (step (suc j) h ∙ cond-false _ _ _ (ne_eqb (suc j) 0 (λ e. omega arith)))
      (next (suc j) l (best j (omega arith)) (s.at_most d l) refl)

  whole-list : (n : ℕ) → n ≡ length rows → low s ratings (take n rows) ≡ low s ratings rows
  whole-list n e = ap (low s ratings) (take_all _ _ (omega arith))

  at_length : (n : ℕ) → n ≡ length rows → (lower : Num) → lower ≡ low s ratings rows → FirstLargest s ratings rows lower
  at_length zero e lower is = record {
    not_below_any = λ i h. absurd (omega arith);
    of_the_shortest = λ h. absurd (omega arith);
    without_rows = λ _. is ∙ sym (whole-list 0 e) ∙ sym (low-none s ratings);
  }
  at_length (suc n) e lower is =
      let b = same-best (suc n) (low s ratings (take (suc n) rows)) lower (is ∙ sym (whole-list (suc n) e)) (best n (omega arith)) in
      record {
        not_below_any = λ i h. b.over i (omega arith);
        of_the_shortest = λ h. (b.at, omega (arith, b.within), b.is, b.first);
        without_rows = λ z. absurd (omega arith);
      }

  pub first-largest : (lower : Num) → lower ≡ low s ratings rows → FirstLargest s ratings rows lower
  first-largest lower is = at_length (length rows) refl lower is
