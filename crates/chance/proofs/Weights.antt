-- Sums over sets: the weights of the sets around a set add up to the set's own product.
use Rattle.std.proofs.Common.{◌≡◌, ℕ, zero, suc, ◌+◌, ◌-◌, ◌*◌, ◌/◌, ◌≤◌, Bool, true, false, cond, ◌||◌, T, List, [], ◌∷◌, sym, refl, ap, ◌∙◌, le_trans, add-mul, arith, lit≤}
use mathlib.Core.Path.{fun_ext}
use lib.Bits.{bit_or}
use native.Mathlib.Nat.{pow-le-pow_right}
use Rattle.network.specs.declared.rating.Rating.{Rating}
use Rattle.chance.specs.CutOff.{Within}
use Rattle.chance.proofs.Risks.{Risk, unit, AbleRisks}
use Rattle.chance.proofs.OverSets.{first, over_sets, units, weight}
use Rattle.chance.proofs.Masks.{T_true, even-first, odd-first, even-half, odd-half, able-first, able-half, able-even, able-odd, or-half, has_first, half-has, within-half, first-has, none_has, has-half, first-or}

cond-le : (a : Bool) (x y : ℕ) → (T a → x ≤ y) → cond a x 0 ≤ cond a y 0
cond-le true x y h = h tt
cond-le false x y h = omega arith

cond-add : (a : Bool) (x y : ℕ) → cond a (x + y) 0 ≡ cond a x 0 + cond a y 0
cond-add true x y = refl
cond-add false x y = refl

cond-mul : (a : Bool) (k x : ℕ) → cond a (k * x) 0 ≡ k * cond a x 0
cond-mul true k x = refl
cond-mul false k x = omega arith

cond-one : (a : Bool) → ◌≡◌ {A = ℕ} (cond a 1 1) 1
cond-one true = refl
cond-one false = refl

parts : (u d w : ℕ) → d ≤ u → (u - d) * w + d * w ≡ u * w
parts u d w h = sym (add-mul (u - d) d w) ∙ ap (λ x. x * w) (omega arith)

pub sets-le : (bs : List Risk) (f g : ℕ → ℕ) → ((z : ℕ) → AbleRisks bs z → f z ≤ g z) → over_sets bs f ≤ over_sets bs g
unfolding over_sets
sets-le [] f g h = h 0 (λ k t. none_has k t)
sets-le (b ∷ bs) f g h =
    let p = sets-le bs (λ z. f (2 * z)) (λ z. g (2 * z)) (λ z a. h (2 * z) (able-even b bs z a)) in
    let q = λ (t : T b.able). sets-le bs (λ z. f (2 * z + 1)) (λ z. g (2 * z + 1)) (λ z a. h (2 * z + 1) (able-odd b bs z t a)) in
    omega (arith, cond-le b.able _ _ q)

pub sets-add : (bs : List Risk) (f g : ℕ → ℕ) → over_sets bs (λ z. f z + g z) ≡ over_sets bs f + over_sets bs g
unfolding over_sets
sets-add [] f g = refl
sets-add (b ∷ bs) f g =
    let p = sets-add bs (λ z. f (2 * z)) (λ z. g (2 * z)) in
    let q = sets-add bs (λ z. f (2 * z + 1)) (λ z. g (2 * z + 1)) in
    rw (p, q) (omega (arith, cond-add b.able (over_sets bs (λ z. f (2 * z + 1))) (over_sets bs (λ z. g (2 * z + 1)))))

pub sets-mul : (bs : List Risk) (k : ℕ) (f : ℕ → ℕ) → over_sets bs (λ z. k * f z) ≡ k * over_sets bs f
unfolding over_sets
sets-mul [] k f = refl
sets-mul (b ∷ bs) k f =
    let p = sets-mul bs k (λ z. f (2 * z)) in
    let q = sets-mul bs k (λ z. f (2 * z + 1)) in
    rw (p, q) (omega (arith, cond-mul b.able k (over_sets bs (λ z. f (2 * z + 1)))))

pub sets-none : (bs : List Risk) → over_sets bs (λ z. 0) ≡ 0
sets-none bs = sets-mul bs 0 (λ z. 0) ∙ omega arith

pub sets_same : (bs : List Risk) {f g : ℕ → ℕ} → ((z : ℕ) → f z ≡ g z) → over_sets bs f ≡ over_sets bs g
sets_same bs h = ap (over_sets bs) (fun_ext h)

-- 1 where the branches of c are among those of z, else 0
abbrev pub inside : List Risk → ℕ → ℕ → ℕ
inside [] c z = 1
inside (b ∷ bs) c z = cond (first c) (cond (first z) 1 0) 1 * inside bs (c / 2) (z / 2)

-- the chance that the branches of c fail, and perhaps others, over `units`
abbrev pub around : List Risk → ℕ → ℕ
around [] c = 1
around (b ∷ bs) c = cond b.able (cond (first c) b.rating.mantissa (unit b.rating)) 1 * around bs (c / 2)

pub rating-le : (r : Rating) → r.mantissa ≤ unit r
rating-le r = le_trans r.small (pow-le-pow_right {n = 10} (lit≤ tt) {i = 9} r.least)

-- the two halves of a sum over sets, each with its factor
even-part : (b : Risk) (bs : List Risk) (c : ℕ)
    → over_sets bs (λ z. inside (b ∷ bs) c (2 * z) * weight (b ∷ bs) (2 * z))
    ≡ (cond (first c) 0 1 * cond b.able (unit b.rating - b.rating.mantissa) 1) * over_sets bs (λ z. inside bs (c / 2) z * weight bs z)
unfolding weight
even-part b bs c =
    sets_same bs (λ z. simp (even-first, even-half) (omega arith)) ∙ sets-mul bs _ _

odd_part : (b : Risk) (bs : List Risk) (c : ℕ) → T b.able
    → over_sets bs (λ z. inside (b ∷ bs) c (2 * z + 1) * weight (b ∷ bs) (2 * z + 1))
    ≡ b.rating.mantissa * over_sets bs (λ z. inside bs (c / 2) z * weight bs z)
unfolding weight
odd_part b bs c t = sets_same bs (λ z. simp (odd-first, odd-half, T_true b.able t, cond-one (first c)) (omega arith)) ∙ sets-mul bs _ _

-- the weights of the sets around c add up to the product of c
pub weight-sum : (bs : List Risk) → (c : ℕ) → AbleRisks bs c
    → over_sets bs (λ z. inside bs c z * weight bs z) ≡ around bs c
unfolding over_sets weight
weight-sum [] c a = refl
weight-sum (b ∷ bs) c a =
    rw (even-part b bs c) (
    join b.able (first c) _ (around bs (c / 2)) (able-first b bs c a) (rating-le b.rating)
    (weight-sum bs (c / 2) (able-half b bs c a)) (odd_part b bs c))
  where
    join : (able f : Bool) (W A : ℕ) → (T f → T able) → b.rating.mantissa ≤ unit b.rating
        → W ≡ A → {O : ℕ} → (T able → O ≡ b.rating.mantissa * W)
        → (cond f 0 1 * cond able (unit b.rating - b.rating.mantissa) 1) * W + cond able O 0
        ≡ cond able (cond f b.rating.mantissa (unit b.rating)) 1 * A
    join true true W A s l e o = rw (o tt, e) (omega arith)
    join true false W A s l e o = rw (o tt, e) (omega (arith, parts (unit b.rating) b.rating.mantissa A l))
    join false true W A s l e o = absurd (s tt)
    join false false W A s l e o = rw e (omega arith)

-- `inside` is at most 1, and says whether one set lies within another
pub inside-le : (bs : List Risk) (c z : ℕ) → inside bs c z ≤ 1
inside-le [] c z = omega arith
inside-le (b ∷ bs) c z = step (first c) (first z) (inside bs (c / 2) (z / 2)) (inside-le bs (c / 2) (z / 2))
  where
    step : (f g : Bool) (n : ℕ) → n ≤ 1 → cond f (cond g 1 0) 1 * n ≤ 1
    step true true n h = omega arith
    step true false n h = omega arith
    step false g n h = omega arith

pub within-inside : (bs : List Risk) (c z : ℕ) → Within c z → inside bs c z ≡ 1
within-inside [] c z h = refl
within-inside (b ∷ bs) c z h =
    step (first c) (first z) (λ t. has_first z (h 0 (first-has c t))) _ (within-inside bs (c / 2) (z / 2) (within-half c z h))
  where
    step : (f g : Bool) → (T f → T g) → (n : ℕ) → n ≡ 1 → cond f (cond g 1 0) 1 * n ≡ 1
    step true true s n e = omega arith
    step true false s n e = absurd (s tt)
    step false g s n e = omega arith

both-sides : (f g : Bool) (n : ℕ) → 1 ≤ cond f (cond g 1 0) 1 * n → (T f → T g) × (1 ≤ n)
both-sides true true n p = (λ u. tt, omega arith)
both-sides true false n p = absurd (omega arith)
both-sides false g n p = (λ u. absurd u, omega arith)

pub inside-within : (bs : List Risk) (c z : ℕ) → AbleRisks bs c → 1 ≤ inside bs c z → Within c z
inside-within [] c z a h k t = absurd (a k t)
inside-within (b ∷ bs) c z a h zero t = first-has z ((both-sides (first c) (first z) (inside bs (c / 2) (z / 2)) h).0 (has_first c t))
inside-within (b ∷ bs) c z a h (suc k) t =
    let i = (both-sides (first c) (first z) (inside bs (c / 2) (z / 2)) h).1 in
    has-half z k (inside-within bs (c / 2) (z / 2) (able-half b bs c a) i k (half-has c k t))

-- a union lies within z where both of its sets do
pub inside-or : (bs : List Risk) (c d z : ℕ) → inside bs (bit_or c d) z ≡ inside bs c z * inside bs d z
inside-or [] c d z = refl
inside-or (b ∷ bs) c d z =
    rw (or-half c d, first-or c d, inside-or bs (c / 2) (d / 2) (z / 2)) (step (first c) (first d) (first z) _ _)
  where
    step : (f g h : Bool) (m n : ℕ)
        → cond (f || g) (cond h 1 0) 1 * (m * n) ≡ (cond f (cond h 1 0) 1 * m) * (cond g (cond h 1 0) 1 * n)
    step true true true m n = omega arith
    step true true false m n = omega arith
    step true false true m n = omega arith
    step true false false m n = omega arith
    step false true true m n = omega arith
    step false true false m n = omega arith
    step false false h m n = omega arith

-- the empty set
pub around-none : (bs : List Risk) → around bs 0 ≡ units bs
unfolding units
around-none [] = refl
around-none (b ∷ bs) = ap (λ n. cond b.able (unit b.rating) 1 * n) (around-none bs)

pub weight-all : (bs : List Risk) → over_sets bs (weight bs) ≡ units bs
weight-all bs =
    sets_same bs (λ z. rw (within-inside bs 0 z (λ k t. absurd (none_has k t))) (omega arith))
    ∙ weight-sum bs 0 (λ k t. absurd (none_has k t)) ∙ around-none bs
