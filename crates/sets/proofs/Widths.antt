-- What the operations on a mask of k bits give, for every width k.
use Rattle.std.proofs.Common.{◌≡◌, ℕ, zero, suc, ◌-◌, ◌*◌, ◌/◌, ◌%◌, ◌^◌, ◌<◌, ◌≤◌, Bool, false, not, ◌&&◌, eqb, ltb, Some, None, sym, refl, ap, ◌∙◌, inl, inr, min, arith}
use lib.Bits.{bit_and, and_lt, and_zero_r}
use lib.Count.{count_trailing_zeros, under}
use Rattle.std.proofs.Math.Pow.{pow_mono}
use Rattle.std.proofs.lemmas.Nat.Bits.{and_pow, bit_at-lt}
use Rattle.std.proofs.lemmas.Nat.{pow_below, pow_pos}
use Rattle.std.specs.Bool.{then_some}
use Rattle.std.proofs.lemmas.Bool.{cases_Bool, cases_lt, lt-ltb, le-ltb, eq-eqb, ne_eqb, eqb-true, eqb-false, cond-true, cond-false}
use Rattle.sets.specs.Masks.{has, collect, any, least, lowest, ◌∈◌, ◌∉◌}
use Rattle.sets.proofs.Members.{clash, refuted, has-zero, has-suc, has-none, same-mask, below-mask, has-and, has-single, decides-any, least-is}
use Rattle.sets.proofs.Shifts.{least-unique}
use Rattle.sets.proofs.Collected.{has_first, is-collect, within-mask}

-- `S & (1 << v) != 0`
bit-test : (b p : ℕ) → b < 2 → 0 < p → not (eqb (b * p) 0) ≡ eqb b 1
bit-test zero p h q = ap not (eq-eqb (0 * p) 0 (omega arith))
bit-test (suc zero) p h q = ap not (ne_eqb (1 * p) 0 (λ e. omega arith))
bit-test (suc (suc b)) p h q = absurd (omega arith)

pub member-is : (S v : ℕ) → not (eqb (bit_and S (2 ^ v)) 0) ≡ has S v
unfolding has
member-is S v = rw (and_pow S v) (bit-test (S / 2 ^ v % 2) (2 ^ v) (bit_at-lt S v) (pow_pos v))

-- `1 << v`, and no member where v is no number of k bits
pub single-is : (k v : ℕ) → v < k → 2 ^ v ≡ collect k (λ w. eqb w v)
single-is k v l = is-collect k k (2 ^ v) (λ w. eqb w v) (omega arith) (pow_below v k l) (λ w _. has-single v w)
    (λ w h. has-single v w ∙ ne_eqb w v (λ e. omega arith))

pub single-none : (k v : ℕ) → k ≤ v → 0 ≡ collect k (λ w. eqb w v)
single-none k v l = is-collect k k 0 (λ w. eqb w v) (omega arith) (pow_pos k) (λ w h. has-none w ∙ sym (ne_eqb w v (λ e. omega arith))) (λ w _. has-none w)

-- the n lowest bits, and all k of them where n is past the width
pub ones-small : (k n : ℕ) → n ≤ k → 2 ^ n - 1 < 2 ^ k
ones-small k n l = omega (arith, pow_mono l, pow_pos n)

pub below-is : (k n : ℕ) → n ≤ k → 2 ^ n - 1 ≡ collect k (λ v. ltb v n)
below-is k n l = is-collect k k (2 ^ n - 1) (λ v. ltb v n) (omega arith) (ones-small k n l) (λ v _. has_first n v) (λ v h. has_first n v ∙ le-ltb v n (omega arith))

pub below-min : (k n m : ℕ) → m ≡ min n k → 2 ^ m - 1 ≡ collect k (λ v. ltb v n)
below-min k n m e = elim (cases_lt n k) [
  | inl h ↦ let q : m ≡ n = omega arith in rw q (below-is k n (omega arith))
  | inr h ↦
      let q : m ≡ k = omega arith in
      rw q (is-collect k k (2 ^ k - 1) (λ v. ltb v n) (omega arith) (ones-small k k (omega arith))
      (λ v l. has_first k v ∙ lt-ltb v k l ∙ sym (lt-ltb v n (omega arith))) (λ v l. has_first k v ∙ le-ltb v k l))
]

-- `a & b == 0`
pub disjoint-is : (k a b : ℕ) → a < 2 ^ k → b < 2 ^ k → eqb (bit_and a b) 0 ≡ not (any k (λ v. has a v && has b v))
disjoint-is k a b s t = elim (cases_Bool (any k both)) [
  | inl i ↦ (let m = (decides-any both k).0 i in ne_eqb (bit_and a b) 0 (λ e. clash (ap (λ q. has q m.0) e ∙ has-none m.0) (has-and a b m.0 ∙ m.2))) ∙ sym (ap not i)
  | inr o ↦ eq-eqb (bit_and a b) 0 (same-mask k (bit_and a b) 0 (and_lt k a b s t) (pow_pos k) (λ v l. has-and a b v ∙ none o v l ∙ sym (has-none v))) ∙ sym (ap not o)
]
  where
    both : ℕ → Bool
    both v = has a v && has b v

    none : any k both ≡ false → (v : ℕ) → v < k → both v ≡ false
    none o v l = refuted (λ t. clash o ((decides-any both k).1 (v, l, t)))

-- trailing zeros come to the least member
abbrev First : ℕ → ℕ → Type 0
First S m = (m ∈ S) × ((v : ℕ) → v < m → v ∉ S)

first_under : (S d t : ℕ) → S % 2 ≡ d → (d ≡ 0 → First (S / 2) t) → First S (under d t)
first_under S zero t e h = (has-suc S t ∙ (h refl).0, before)
  where
    before : (v : ℕ) → v < suc t → v ∉ S
    before zero l = has-zero S ∙ ap (λ q. eqb q 1) e
    before (suc v) l = has-suc S v ∙ (h refl).1 v (omega arith)
first_under S (suc d) t e h = (has-zero S ∙ eq-eqb (S % 2) 1 (omega arith), λ v l. absurd (omega arith))

first-zeros : (k S : ℕ) → S < 2 ^ k → 0 < S → First S (count_trailing_zeros k S)
unfolding count_trailing_zeros
first-zeros zero S h p = absurd (omega arith)
first-zeros (suc k) S h p = first_under S (S % 2) (count_trailing_zeros k (S / 2)) refl (λ z. first-zeros k (S / 2) (omega arith) (omega arith))

-- the lowest number that passes a test, from the set of those that pass
module _ (n : ℕ) (f : ℕ → Bool) (S : ℕ) (member : (v : ℕ) → v < n → has S v ≡ f v) where
  pub lowest-none : S ≡ 0 → None ≡ lowest n f
  lowest-none z = sym (cond-false (ltb (least n f) n) _ _ (le-ltb (least n f) n (elim (cases_lt (least n f) n) [
    | inr h ↦ h
    | inl l ↦ absurd (clash (ap (λ q. has q (least n f)) z ∙ has-none (least n f)) (member (least n f) l ∙ (least-is n f).passes l))
  ])))

  pub lowest-some : (k : ℕ) → S < 2 ^ k → S < 2 ^ n → (S ≡ 0 → ⊥) → Some (count_trailing_zeros k S) ≡ lowest n f
  lowest-some k s t z =
      let p = first-zeros k S s (omega (arith, z)) in
      let m = count_trailing_zeros k S in
      let low : m < n = below-mask n S m t p.0 in
      let q : m ≡ least n f = least-unique n f m (record { within = omega arith; passes = λ _. sym (member m low) ∙ p.0; before = λ v l. sym (member v (omega arith)) ∙ p.1 v l }) in
      ap Some q ∙ sym (cond-true (ltb (least n f) n) _ _ (lt-ltb (least n f) n (omega arith)))

-- the same of a set of k bits, in a word of w bits
pub lowest-empty : (k S : ℕ) → S ≡ 0 → None ≡ lowest k (has S)
lowest-empty k S z = lowest-none k (has S) S (λ v _. refl) z

pub lowest-zeros : (w k S : ℕ) → k ≤ w → S < 2 ^ k → (S ≡ 0 → ⊥) → Some (count_trailing_zeros w S) ≡ lowest k (has S)
lowest-zeros w k S wide s z = lowest-some k (has S) S (λ v _. refl) w (omega (arith, s, pow_mono wide)) s z

pub lowest-is : (w k S : ℕ) → k ≤ w → S < 2 ^ k → then_some (not (eqb S 0)) (count_trailing_zeros w S) ≡ lowest k (has S)
lowest-is w k S wide s = elim (cases_Bool (eqb S 0)) [
  | inl t ↦ ap (λ b. then_some (not b) (count_trailing_zeros w S)) t ∙ lowest-empty k S (eqb-true _ _ t)
  | inr f ↦ ap (λ b. then_some (not b) (count_trailing_zeros w S)) f ∙ lowest-zeros w k S wide s (eqb-false _ _ f)
]

-- `S & D != 0`, where D is the set of v alone
pub contains-is : (k S D v : ℕ) → S < 2 ^ k → D ≡ collect k (λ w. eqb w v) → not (eqb (bit_and S D) 0) ≡ has S v
contains-is k S D v s d = elim (cases_lt v k) [
  | inl l ↦ ap (λ n. not (eqb (bit_and S n) 0)) (d ∙ sym (single-is k v l)) ∙ member-is S v
  | inr h ↦ ap (λ n. not (eqb (bit_and S n) 0)) (d ∙ sym (single-none k v h)) ∙ ap not (eq-eqb (bit_and S 0) 0 (and_zero_r S)) ∙ sym (within-mask k S v s h)
]
