-- The largest difference over the prefixes, and what more rows do to the bounds.
use Rattle.std.proofs.Common.{◌≡◌, ℕ, ◌*◌, Bool, true, false, cond, List, [], ◌∷◌, ◌++◌, map, fold, sym, refl, subst, ⊎_elim, append-nil, arith}
use mathlib.Core.List.{map-append}
use Rattle.std.specs.List.{AllByRecursion}
use Rattle.std.proofs.lemmas.Bool.{cases_lt}
use Rattle.std.proofs.lemmas.List.Sums.{fold-append}
use Rattle.sets.proofs.Members.{clash}
use Rattle.network.specs.declared.rating.Rating.{Rating}
use Rattle.scale.specs.Fractions.{Fraction, whole, ◌≤ᶠ◌}
use Rattle.scale.specs.Arithmetic.{Arithmetic, Rounded}
use Rattle.scale.specs.FractionOrder.{at-most-trans}
use Rattle.chance.specs.Bounds.{prefixes, larger, largest, difference, low, high}
use Rattle.chance.specs.Bracket.{Narrowing}
use Rattle.chance.proofs.RowSteps.{prefixes-append}

module _ {Num : Type 0} (s : Arithmetic Num) (law : Rounded s) where
  abbrev Below : Fraction → Num → Type 0
  Below e n = s.value n ≤ᶠ e

  pub zero-below : (e : Fraction) → s.value s.zero ≤ᶠ e
  zero-below e = let z : (s.value s.zero).top ≡ 0 = omega (arith, law.zero_is_0) in rw z (omega arith)

  larger-below : (e : Fraction) (m n : Num) → Below e m → Below e n → Below e (larger s m n)
  larger-below e m n h k = elim (s.at_most n m) as (λ t. s.value (cond t m n) ≤ᶠ e) [ true ↦ h | false ↦ k ]

  folded-below : (e : Fraction) (ns : List Num) → AllByRecursion (Below e) ns → (n : Num) → Below e n → Below e (fold (larger s) n ns)
  folded-below e [] h n k = k
  folded-below e (m ∷ ns) h n k = folded-below e ns h.1 (larger s n m) (larger-below e n m k h.0)

  -- what is not below any of a list is not below the largest
  pub largest-below : (e : Fraction) (ns : List Num) → AllByRecursion (Below e) ns → Below e (largest s ns)
  unfolding largest
  largest-below e [] h = zero-below e
  largest-below e (n ∷ ns) h = folded-below e ns h.1 n h.0

  above : (m n : Num) (t : Bool) → s.at_most n m ≡ t → s.value m ≤ᶠ s.value (cond t m n)
  above m n true e = omega arith
  above m n false e =
      ⊎_elim (λ z. absurd (clash e (law.at_most_if n m (omega arith)))) (λ z. z)
      (cases_lt ((s.value n).top * (s.value m).under) ((s.value m).top * (s.value n).under))

  larger-above : (m n : Num) → s.value m ≤ᶠ s.value (larger s m n)
  larger-above m n = above m n (s.at_most n m) refl

  folded-above : (ns : List Num) (n : Num) → s.value n ≤ᶠ s.value (fold (larger s) n ns)
  folded-above [] n = omega arith
  folded-above (m ∷ ns) n =
      at-most-trans (s.value n) (s.value (larger s n m)) (s.value (fold (larger s) (larger s n m) ns)) (larger-above n m) (folded-above ns (larger s n m))

  largest-above : (ns more : List Num) → s.value (largest s ns) ≤ᶠ s.value (largest s (ns ++ more))
  unfolding largest
  largest-above [] more = zero-below (s.value (largest s more))
  largest-above (n ∷ ns) more =
      subst (λ l. s.value (fold (larger s) n ns) ≤ᶠ s.value l) (sym (fold-append (larger s) n ns more)) (folded-above more (fold (larger s) n ns))

  module _ (ratings : List Rating) where
    low-grows : (rows more : List ℕ) → s.value (low s ratings rows) ≤ᶠ s.value (low s ratings (rows ++ more))
    unfolding low
    low-grows rows more =
        rw (prefixes-append rows more, map-append (difference s ratings) (prefixes rows) (map (λ p. rows ++ p) (prefixes more)))
        (largest-above (map (difference s ratings) (prefixes rows)) (map (difference s ratings) (map (λ p. rows ++ p) (prefixes more))))

    high-falls : (rows more : List ℕ) (earlier later : Bool) → (earlier ≡ true → (more ≡ []) × (later ≡ true))
        → s.value (high s ratings later (rows ++ more)) ≤ᶠ s.value (high s ratings earlier rows)
    unfolding high
    high-falls rows more false later h =
        at-most-trans (s.value (high s ratings later (rows ++ more))) (whole 1) (s.value s.one) (law.values_reach_to_one _) (omega (arith, law.one_is_1))
    high-falls rows more true later h = rw ((h refl).1, (h refl).0, append-nil rows) (omega arith)

pub narrowing : (Num : Type 0) → Narrowing Num
narrowing Num s law ratings rows more earlier later h = (low-grows s law ratings rows more, high-falls s law ratings rows more earlier later h)
