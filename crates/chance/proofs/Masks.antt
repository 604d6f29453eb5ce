-- Sets of branches as masks, one branch at a time: the first branch by the lowest bit, the others by the half.
use Rattle.std.proofs.Common.{◌≡◌, ℕ, zero, suc, ◌+◌, ◌*◌, ◌/◌, ◌%◌, ◌<◌, max, Bool, true, false, ◌||◌, T, eqb, ◌⊎◌, List, ◌∷◌, sym, refl, ◌∙◌, subst, inl, inr, arith}
use lib.Bits.{bit_or, or_step, or_shr}
use Rattle.sets.specs.Masks.{has, ◌∈◌}
use Rattle.sets.proofs.Members.{clash, has-suc, has-zero, has-none, has-or}
use Rattle.chance.specs.CutOff.{Within}
use Rattle.chance.proofs.Risks.{Risk, AbleRisks}
use Rattle.chance.proofs.OverSets.{first}

pub has-half : (z k : ℕ) → k ∈ z / 2 → suc k ∈ z
has-half z k h = has-suc z k ∙ h

pub half-has : (z k : ℕ) → suc k ∈ z → k ∈ z / 2
half-has z k h = sym (has-suc z k) ∙ h

pub has_first : (z : ℕ) → 0 ∈ z → T (first z)
has_first z h = rw (sym (has-zero z) ∙ h) tt

pub T_true : (a : Bool) → T a → a ≡ true
T_true true t = refl
T_true false t = absurd t

pub first-has : (z : ℕ) → T (first z) → 0 ∈ z
first-has z t = has-zero z ∙ T_true (first z) t

pub none_has : (k : ℕ) → k ∈ 0 → ⊥
none_has k h = clash (has-none k) h

pub even-first : (z : ℕ) → first (2 * z) ≡ false
even-first z = let e : 2 * z % 2 ≡ 0 = omega arith in rw e

pub odd-first : (z : ℕ) → first (2 * z + 1) ≡ true
odd-first z = let e : (2 * z + 1) % 2 ≡ 1 = omega arith in rw e

pub even-half : (z : ℕ) → 2 * z / 2 ≡ z
even-half z = omega arith

pub odd-half : (z : ℕ) → (2 * z + 1) / 2 ≡ z
odd-half z = omega arith

pub within-half : (c z : ℕ) → Within c z → Within (c / 2) (z / 2)
within-half c z h k t = half-has z k (h (suc k) (has-half c k t))

pub able-first : (b : Risk) (bs : List Risk) (c : ℕ) → AbleRisks (b ∷ bs) c → T (first c) → T b.able
able-first b bs c h t = h 0 (first-has c t)

pub able-half : (b : Risk) (bs : List Risk) (c : ℕ) → AbleRisks (b ∷ bs) c → AbleRisks bs (c / 2)
able-half b bs c h k t = h (suc k) (has-half c k t)

pub able-even : (b : Risk) (bs : List Risk) (z : ℕ) → AbleRisks bs z → AbleRisks (b ∷ bs) (2 * z)
able-even b bs z h zero t = absurd (subst T (even-first z) (has_first (2 * z) t))
able-even b bs z h (suc k) t = h k (rw (even-half z) at (half-has (2 * z) k t))

pub able-odd : (b : Risk) (bs : List Risk) (z : ℕ) → T b.able → AbleRisks bs z → AbleRisks (b ∷ bs) (2 * z + 1)
able-odd b bs z a h zero t = a
able-odd b bs z a h (suc k) t = h k (rw (odd-half z) at (half-has (2 * z + 1) k t))

pub or-half : (c d : ℕ) → bit_or c d / 2 ≡ bit_or (c / 2) (d / 2)
or-half c d = or_shr c d 1

pub or-low : (c d : ℕ) → bit_or c d % 2 ≡ max (c % 2) (d % 2)
or-low c d = omega (arith, or_step c d)

pub or-has : (c d k : ℕ) → k ∈ bit_or c d → (k ∈ c) ⊎ (k ∈ d)
or-has c d k h = pick (has c k) (has d k) (sym (has-or c d k) ∙ h)
  where
    pick : (x y : Bool) → (x || y) ≡ true → (x ≡ true) ⊎ (y ≡ true)
    pick true y e = inl refl
    pick false y e = inr e

pub able-or : (bs : List Risk) (c d : ℕ) → AbleRisks bs c → AbleRisks bs d → AbleRisks bs (bit_or c d)
able-or bs c d p q k h = elim (or-has c d k h) [ inl t ↦ p k t | inr t ↦ q k t ]

pub first-or : (c d : ℕ) → first (bit_or c d) ≡ (first c || first d)
first-or c d = rw (or-low c d) (bits (c % 2) (d % 2) (omega arith) (omega arith))
  where
    bits : (x y : ℕ) → x < 2 → y < 2 → eqb (max x y) 1 ≡ (eqb x 1 || eqb y 1)
    bits zero zero p q = refl
    bits zero (suc zero) p q = refl
    bits (suc zero) zero p q = refl
    bits (suc zero) (suc zero) p q = refl
    bits zero (suc (suc y)) p q = absurd (omega arith)
    bits (suc zero) (suc (suc y)) p q = absurd (omega arith)
    bits (suc (suc x)) y p q = absurd (omega arith)
