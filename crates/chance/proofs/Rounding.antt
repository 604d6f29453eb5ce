-- Products and sums that are rounded one way stay on that side of the exact ones.
use Rattle.std.proofs.Common.{ℕ, ◌+◌, ◌*◌, ◌/◌, ◌≤◌, Bool, true, false, cond, T, ◌⊎◌, List, [], ◌∷◌, map, fold, inl, inr, add-zero, add_assoc, mul-le-mul_right, mul-le-mul, arith}
use native.Mathlib.Decide.{dec_le}
use Rattle.std.specs.List.{AllByRecursion}
use Rattle.network.specs.declared.rating.Rating.{Rating}
use Rattle.scale.specs.Fractions.{Fraction, whole, ◌≤ᶠ◌, ◌+ᶠ◌, ◌-ᶠ◌, ◌×ᶠ◌}
use Rattle.scale.specs.Arithmetic.{Arithmetic, Rounded, chance}
use Rattle.chance.specs.Bounds.{product_down, product_up}
use Rattle.chance.proofs.Risks.{Risk, unit, ratings_of, AbleRisks}
use Rattle.chance.proofs.OverSets.{first, units, halved}
use Rattle.chance.proofs.Halves.{down-halved, up-halved}
use Rattle.chance.proofs.Ratios.{Under, Over, under-trans, over-trans, times-under, over-times, add-under, over_add, less-under, less-whole}
use Rattle.chance.proofs.Masks.{able-first, able-half}
use Rattle.chance.proofs.Weights.{around, rating-le}
use Rattle.chance.proofs.Counting.{total}

module _ {Num : Type 0} (s : Arithmetic Num) (law : Rounded s) where
  times_below : (n : Num) (r : Rating) (x y : ℕ) → Under (s.value n) x y → Under (s.value (s.times_down n r)) (x * r.mantissa) (y * unit r)
  times_below n r x y h =
      under-trans (s.value (s.times_down n r)) (s.value n ×ᶠ chance r) (x * r.mantissa) (y * unit r) (law.times_down n r).not_above
      (times-under (s.value n) (chance r) x y h)

  times_above : (n : Num) (r : Rating) (x y : ℕ) → Over x y (s.value n) → Over (x * r.mantissa) (y * unit r) (s.value (s.times_up n r))
  times_above n r x y h =
      over-trans (s.value n ×ᶠ chance r) (s.value (s.times_up n r)) (x * r.mantissa) (y * unit r) (over-times (s.value n) (chance r) x y h)
      ((law.times_up n r).not_below
      (omega (arith, mul-le-mul {n₁ = (s.value n).top} {n₂ = (s.value n).under} (omega (arith, law.values_reach_to_one n)) (rating-le r))))

  -- one branch of a product, with what is known of the others
  step-below : (b : Risk) (able f : Bool) → (T f → T able) → (rest : Num → Num) (p q : ℕ)
      → ((n : Num) (x y : ℕ) → Under (s.value n) x y → Under (s.value (rest n)) (x * p) (y * q))
      → (n : Num) (x y : ℕ) → Under (s.value n) x y
      → Under (s.value (rest (cond f (s.times_down n b.rating) n))) (x * (cond able (cond f b.rating.mantissa (unit b.rating)) 1 * p)) (y * (cond able (unit b.rating) 1 * q))
  step-below b true true t rest p q i n x y h =
      let k = i (s.times_down n b.rating) (x * b.rating.mantissa) (y * unit b.rating) (times_below n b.rating x y h) in omega arith
  step-below b true false t rest p q i n x y h =
      let k = i n (x * unit b.rating) (y * unit b.rating) (omega (arith, mul-le-mul_right (unit b.rating) h)) in omega arith
  step-below b false true t rest p q i n x y h = absurd (t tt)
  step-below b false false t rest p q i n x y h = let k = i n x y h in omega arith

  step-above : (b : Risk) (able f : Bool) → (T f → T able) → (rest : Num → Num) (p q : ℕ)
      → ((n : Num) (x y : ℕ) → Over x y (s.value n) → Over (x * p) (y * q) (s.value (rest n)))
      → (n : Num) (x y : ℕ) → Over x y (s.value n)
      → Over (x * (cond able (cond f b.rating.mantissa (unit b.rating)) 1 * p)) (y * (cond able (unit b.rating) 1 * q)) (s.value (rest (cond f (s.times_up n b.rating) n)))
  step-above b true true t rest p q i n x y h =
      let k = i (s.times_up n b.rating) (x * b.rating.mantissa) (y * unit b.rating) (times_above n b.rating x y h) in omega arith
  step-above b true false t rest p q i n x y h =
      let k = i n (x * unit b.rating) (y * unit b.rating) (omega (arith, mul-le-mul_right (unit b.rating) h)) in omega arith
  step-above b false true t rest p q i n x y h = absurd (t tt)
  step-above b false false t rest p q i n x y h = let k = i n x y h in omega arith

  product-below : (bs : List Risk) (c : ℕ) → AbleRisks bs c → (n : Num) (x y : ℕ) → Under (s.value n) x y
      → Under (s.value (halved s.times_down n (ratings_of bs) c)) (x * around bs c) (y * units bs)
  unfolding halved units
  product-below [] c a n x y h = omega arith
  product-below (b ∷ bs) c a n x y h =
      step-below b b.able (first c) (able-first b bs c a) (λ n. halved s.times_down n (ratings_of bs) (c / 2)) (around bs (c / 2)) (units bs)
      (product-below bs (c / 2) (able-half b bs c a)) n x y h

  product-above : (bs : List Risk) (c : ℕ) → AbleRisks bs c → (n : Num) (x y : ℕ) → Over x y (s.value n)
      → Over (x * around bs c) (y * units bs) (s.value (halved s.times_up n (ratings_of bs) c))
  unfolding halved units
  product-above [] c a n x y h = omega arith
  product-above (b ∷ bs) c a n x y h =
      step-above b b.able (first c) (able-first b bs c a) (λ n. halved s.times_up n (ratings_of bs) (c / 2)) (around bs (c / 2)) (units bs)
      (product-above bs (c / 2) (able-half b bs c a)) n x y h

  module _ (bs : List Risk) where
    row_below : (c : ℕ) → AbleRisks bs c → Under (s.value (product_down s (ratings_of bs) c)) (around bs c) (units bs)
    row_below c a =
        let k = product-below bs c a s.one 1 1 (law.values_reach_to_one s.one) in rw (down-halved s (ratings_of bs) c) (omega arith)

    row-above : (c : ℕ) → AbleRisks bs c → Over (around bs c) (units bs) (s.value (product_up s (ratings_of bs) c))
    row-above c a = let k = product-above bs c a s.one 1 1 (omega (arith, law.one_is_1)) in rw (up-halved s (ratings_of bs) c) (omega arith)

    pub sums-below : (rows : List ℕ) → AllByRecursion (AbleRisks bs) rows → (n : Num) (x : ℕ) → Under (s.value n) x (units bs)
        → Under (s.value (fold s.sum_down n (map (product_down s (ratings_of bs)) rows))) (x + total (around bs) rows) (units bs)
    sums-below [] a n x h = omega arith
    sums-below (c ∷ rows) a n x h =
        let p = product_down s (ratings_of bs) c in
        let k = under-trans (s.value (s.sum_down n p)) (s.value n +ᶠ s.value p) (x + around bs c) (units bs) (law.sum_down n p).not_above
        (add-under (s.value n) (s.value p) x (around bs c) (units bs) h (row_below c a.0)) in
        let i = sums-below rows a.1 (s.sum_down n p) (x + around bs c) k in
        omega arith

    -- an up sum passes the exact one, or is held at 1
    abbrev pub Reaches : Num → ℕ → Type 0
    Reaches n x = (whole 1 ≤ᶠ s.value n) ⊎ Over x (units bs) (s.value n)

    held : (n p : Num) → whole 1 ≤ᶠ s.value n +ᶠ s.value p → whole 1 ≤ᶠ s.value (s.sum_up n p)
    held n p h = omega (arith, (law.sum_up n p).held_at_one h)

    reaches-sum : (n p : Num) (x y : ℕ) → Reaches n x → Over y (units bs) (s.value p) → Reaches (s.sum_up n p) (x + y)
    reaches-sum n p x y (inl h) k = inl (held n p (omega (arith, mul-le-mul_right (s.value p).under h)))
    reaches-sum n p x y (inr h) k = elim (dec_le (sum.top * 1) (1 * sum.under)) [
      | yes l ↦ inr (over-trans sum (s.value (s.sum_up n p)) (x + y) (units bs) (over_add (s.value n) (s.value p) x y (units bs) h k)
          ((law.sum_up n p).not_below l))
      | no l ↦ inl (held n p (omega arith))
    ]
      where
        sum : Fraction
        sum = s.value n +ᶠ s.value p

    pub sums-reach : (sets : List ℕ) → AllByRecursion (AbleRisks bs) sets → (n : Num) (x : ℕ) → Reaches n x
        → Reaches (fold s.sum_up n (map (product_up s (ratings_of bs)) sets)) (x + total (around bs) sets)
    sums-reach [] a n x h = rw add-zero h
    sums-reach (c ∷ sets) a n x h =
        rw (← add_assoc x (around bs c) (total (around bs) sets))
        (sums-reach sets a.1 (s.sum_up n (product_up s (ratings_of bs) c)) (x + around bs c)
        (reaches-sum n (product_up s (ratings_of bs) c) x (around bs c) h (row-above c a.0)))

    pub difference_below : (m n : Num) (a b e : ℕ) → Under (s.value m) a (units bs) → Reaches n b → a ≤ e + b
        → Under (s.value (s.less_down m n)) e (units bs)
    difference_below m n a b e h k l =
        under-trans (s.value (s.less_down m n)) (s.value m -ᶠ s.value n) e (units bs) (law.less_down m n).not_above
        (elim k [
          | inl w ↦ less-whole (s.value m) (s.value n) e (units bs) (law.values_reach_to_one m) w
          | inr r ↦ less-under (s.value m) (s.value n) a b (units bs) e h r l
        ])

    pub reached : (n : Num) (x e : ℕ) → Reaches n x → e ≤ x → e ≤ units bs → Over e (units bs) (s.value n)
    reached n x e (inl w) p q = omega (arith, mul-le-mul {n₁ = e} {m₁ = (s.value n).under} {n₂ = units bs} {m₂ = (s.value n).top} q (omega arith))
    reached n x e (inr h) p q = omega (arith, mul-le-mul_right (s.value n).under p)
