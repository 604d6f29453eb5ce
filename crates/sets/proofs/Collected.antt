-- Members of the sets that the code makes.
use Rattle.std.proofs.Common.{◌≡◌, ℕ, zero, suc, ◌-◌, ◌/◌, ◌%◌, ◌^◌, ◌<◌, ◌≤◌, Bool, not, ◌&&◌, ltb, sym, ap, ◌∙◌, inl, inr, arith}
use lib.Bits.{bit_and}
use Rattle.std.proofs.Math.Pow.{pow_mono}
use Rattle.std.proofs.lemmas.Nat.{pow_pos, pow_below, and_le_l}
use Rattle.std.proofs.lemmas.Bool.{cases_lt, lt-ltb, le-ltb, eq-eqb}
use Rattle.std.proofs.lemmas.Bool.Decides.{nat_tests}
use Rattle.sets.specs.Masks.{has, collect, ◌∉◌}
use Rattle.sets.proofs.Members.{refuted, has-zero, has-suc, has-none, has-collect, collect-small, same-mask, below-mask, has-and}

-- the complement among the first k numbers, which `!` gives
pub has-not : (k b v : ℕ) → b < 2 ^ k → v < k → has (2 ^ k - 1 - b) v ≡ not (has b v)
has-not zero b v h l = absurd (omega arith)
has-not (suc k) b zero h l = has-zero _ ∙ grind (arith, nat_tests, has-zero b)
has-not (suc k) b (suc v) h l =
    let half : (2 ^ suc k - 1 - b) / 2 ≡ 2 ^ k - 1 - b / 2 = omega arith in
    has-suc _ v ∙ ap (λ q. has q v) half ∙ has-not k (b / 2) v (omega arith) (omega arith) ∙ ap not (sym (has-suc b v))

-- the first n numbers
pub has_first : (n v : ℕ) → has (2 ^ n - 1) v ≡ ltb v n
has_first zero v = has-none v ∙ sym (le-ltb v 0 (omega arith))
has_first (suc n) zero = has-zero _ ∙ eq-eqb ((2 ^ suc n - 1) % 2) 1 (omega (arith, pow_pos n)) ∙ sym (lt-ltb 0 (suc n) (omega arith))
has_first (suc n) (suc v) =
    let half : (2 ^ suc n - 1) / 2 ≡ 2 ^ n - 1 = omega (arith, pow_pos n) in
    has-suc _ v ∙ ap (λ q. has q v) half ∙ has_first n v ∙ grind (arith, nat_tests)

-- a set below 2 ^ m that has just the numbers below n that pass
pub is-collect : (m n S : ℕ) (f : ℕ → Bool) → n ≤ m → S < 2 ^ m → ((v : ℕ) → v < n → has S v ≡ f v) → ((v : ℕ) → n ≤ v → v ∉ S) → S ≡ collect n f
is-collect m n S f l s inner outer = same-mask m S (collect n f) s below (λ v k. elim (cases_lt v n) [
  | inl h ↦ inner v h ∙ sym (has-collect n f v h)
  | inr h ↦ outer v h ∙ sym (refuted (λ t. let p = below-mask n (collect n f) v (collect-small n f) t in omega arith))
])
  where
    below : collect n f < 2 ^ m
    below = elim (cases_lt n m) [
      | inl h ↦ let p = collect-small n f in let q = pow_below n m h in omega arith
      | inr h ↦ let e : n ≡ m = omega arith in let p = collect-small n f in rw (sym e) p
    ]

-- `a & !b` of two sets of k bits, in words of w bits
pub and-not : (w k a b : ℕ) → k ≤ w → a < 2 ^ k → b < 2 ^ k → bit_and a (2 ^ w - 1 - b) ≡ collect k (λ v. has a v && not (has b v))
and-not w k a b wide h l = same-mask k (bit_and a (2 ^ w - 1 - b)) (collect k (λ v. has a v && not (has b v))) (omega (arith, h, and_le_l)) (collect-small k _)
    (λ v m. has-and a (2 ^ w - 1 - b) v ∙ ap (λ t. has a v && t) (has-not w b v (omega (arith, l, pow_mono wide)) (omega arith)) ∙ sym (has-collect k (λ v. has a v && not (has b v)) v m))

-- a member below the bound of the set
pub within-mask : (n S v : ℕ) → S < 2 ^ n → n ≤ v → v ∉ S
within-mask n S v s h = refuted (λ t. let p = below-mask n S v s t in omega arith)
