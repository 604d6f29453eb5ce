-- The sum over sets as a plain sum over masks.
use Rattle.std.proofs.Common.{◌≡◌, ℕ, zero, suc, ◌+◌, ◌*◌, ◌/◌, ◌^◌, Bool, true, false, cond, not, ◌&&◌, ◌||◌, T, List, [], ◌∷◌, length, sym, refl, ap, ◌∙◌, add-one, arith, eqb→eq}
use native.Mathlib.Nat.{pow-succ'}
use Rattle.chance.proofs.Risks.{Risk, AbleRisks}
use Rattle.chance.specs.CutOff.{sum_below}
use Rattle.chance.proofs.OverSets.{first, over_sets, able_set}
use Rattle.chance.proofs.Masks.{even-first, odd-first, even-half, odd-half, has_first, half-has, none_has}

sum-halves : (n : ℕ) (f : ℕ → ℕ) → sum_below (2 * n) f ≡ sum_below n (λ z. f (2 * z)) + sum_below n (λ z. f (2 * z + 1))
unfolding sum_below
sum-halves zero f = refl
sum-halves (suc n) f =
    let e : 2 * suc n ≡ suc (suc (2 * n)) = omega arith in
    rw (e, sum-halves n f, ← add-one (2 * n)) (omega arith)

sum-nothing : (n : ℕ) → sum_below n (λ z. 0) ≡ 0
unfolding sum_below
sum-nothing zero = refl
sum-nothing (suc n) = omega (arith, sum-nothing n)

odd-sets : (able : Bool) (n : ℕ) (test : ℕ → Bool) (f : ℕ → ℕ)
    → cond able (sum_below n (λ z. cond (test z) (f z) 0)) 0 ≡ sum_below n (λ z. cond (able && test z) (f z) 0)
unfolding sum_below
odd-sets true n test f = refl
odd-sets false n test f = sym (sum-nothing n)

both : (f a r : Bool) → T ((not f || a) && r) → (T f → T a) × T r
both true true r t = (λ u. tt, t)
both true false r t = absurd t
both false a r t = (λ u. absurd u, t)

pub each-set-once : (bs : List Risk) (f : ℕ → ℕ) → over_sets bs f ≡ sum_below (2 ^ length bs) (λ z. cond (able_set bs z) (f z) 0)
unfolding over_sets able_set sum_below
each-set-once [] f = sym (omega arith)
each-set-once (b ∷ bs) f =
    rw (each-set-once bs (λ z. f (2 * z)), each-set-once bs (λ z. f (2 * z + 1)), odd-sets b.able (2 ^ length bs) (able_set bs) (λ z. f (2 * z + 1)))
    ((simp (even-first, even-half, odd-first, odd-half)) ∙ sym (ap (λ n. sum_below n (λ z. cond (able_set (b ∷ bs) z) (f z) 0)) (pow-succ' 2 (length bs)) ∙ sum-halves (2 ^ length bs) (λ z. cond (able_set (b ∷ bs) z) (f z) 0)))

-- a passed test for a set of able branches
pub able-from-test : (bs : List Risk) (z : ℕ) → T (able_set bs z) → AbleRisks bs z
unfolding able_set
able-from-test [] z t k h = none_has k (rw (eqb→eq z 0 t) at h)
able-from-test (b ∷ bs) z t zero h = (both (first z) b.able (able_set bs (z / 2)) t).0 (has_first z h)
able-from-test (b ∷ bs) z t (suc k) h = able-from-test bs (z / 2) (both (first z) b.able (able_set bs (z / 2)) t).1 k (half-has z k h)
