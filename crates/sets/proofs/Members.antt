-- Members of masks, and the searches below a bound.
use Rattle.std.proofs.Common.{◌≡◌, ℕ, zero, suc, ◌+◌, ◌*◌, ◌/◌, ◌%◌, ◌^◌, ◌<◌, ◌≤◌, Bool, true, false, cond, ◌&&◌, ◌||◌, eqb, ltb, Decides, sym, refl, ap, ◌∙◌, ap₂, inl, inr, one-add, arith}
use lib.Bits.{bit_and, bit_or, and_step, or_step}
use Rattle.std.proofs.lemmas.Nat.{shr-shr}
use Rattle.std.proofs.lemmas.Bool.{cases_Bool, both_ways, cases_lt, cond_both, ltb-true, ltb-false}
use Rattle.std.proofs.lemmas.Bool.Decides.{nat_tests, Decides-below_or}
use Rattle.sets.specs.Masks.{has, collect, any, least, count, ◌∈◌, ◌∉◌}

-- a test that is not both, is not the one, or is not the other
pub clash : {b : Bool} → b ≡ false → b ≡ true → ⊥
clash {b} o i = both_ways b o i

pub refuted : {b : Bool} → (b ≡ true → ⊥) → b ≡ false
refuted {b} h = elim (cases_Bool b) [ inl t ↦ absurd (h t) | inr t ↦ t ]

pub certain : {b : Bool} → (b ≡ false → ⊥) → b ≡ true
certain {b} h = elim (cases_Bool b) [ inl t ↦ t | inr t ↦ absurd (h t) ]

pub has-suc : (S v : ℕ) → has S (suc v) ≡ has (S / 2) v
unfolding has
has-suc S v = ap (λ q. eqb (q % 2) 1) (ap (λ e. S / 2 ^ e) (sym (one-add v)) ∙ sym (shr-shr S 1 v))

pub has-zero : (S : ℕ) → has S 0 ≡ eqb (S % 2) 1
unfolding has
has-zero S = ap (λ q. eqb (q % 2) 1) (omega arith)

half-bit : (b : Bool) (m : ℕ) → (cond b 1 0 + 2 * m) / 2 ≡ m
half-bit true m = omega arith
half-bit false m = omega arith

odd-bit : (b : Bool) (m : ℕ) → eqb ((cond b 1 0 + 2 * m) % 2) 1 ≡ b
odd-bit true m = ap (λ q. eqb q 1) (let e : (1 + 2 * m) % 2 ≡ 1 = omega arith in e)
odd-bit false m = ap (λ q. eqb q 1) (let e : (0 + 2 * m) % 2 ≡ 0 = omega arith in e)

pub has-none : (v : ℕ) → v ∉ 0
has-none zero = has-zero 0
has-none (suc v) = has-suc 0 v ∙ has-none v

pub has-collect : (n : ℕ) (f : ℕ → Bool) (v : ℕ) → v < n → has (collect n f) v ≡ f v
unfolding collect
has-collect zero f v h = absurd (omega arith)
has-collect (suc n) f zero h = has-zero _ ∙ odd-bit (f 0) (collect n (λ v. f (suc v)))
has-collect (suc n) f (suc v) h = has-suc _ v ∙ ap (λ q. has q v) (half-bit (f 0) (collect n (λ v. f (suc v)))) ∙ has-collect n (λ v. f (suc v)) v (omega arith)

pub collect-small : (n : ℕ) (f : ℕ → Bool) → collect n f < 2 ^ n
unfolding collect
collect-small zero f = omega arith
collect-small (suc n) f = let k = collect-small n (λ v. f (suc v)) in elim (f 0) as (λ b. cond b 1 0 + 2 * collect n (λ v. f (suc v)) < 2 ^ suc n) [ true ↦ omega arith | false ↦ omega arith ]

-- two masks with the same members are the same
pub same-mask : (n S T : ℕ) → S < 2 ^ n → T < 2 ^ n → ((v : ℕ) → v < n → has S v ≡ has T v) → S ≡ T
same-mask zero S T s t h = omega arith
same-mask (suc n) S T s t h =
    let q = same-mask n (S / 2) (T / 2) (omega arith) (omega arith) (λ v l. sym (has-suc S v) ∙ h (suc v) (omega arith) ∙ has-suc T v) in
    let r : eqb (S % 2) 1 ≡ eqb (T % 2) 1 = sym (has-zero S) ∙ h 0 (omega arith) ∙ has-zero T in
    grind (arith, nat_tests)

pub below-mask : (n S v : ℕ) → S < 2 ^ n → v ∈ S → v < n
below-mask zero S v s h = let e : S ≡ 0 = omega arith in absurd (clash (ap (λ q. has q v) e ∙ has-none v) h)
below-mask (suc n) S zero s h = omega arith
below-mask (suc n) S (suc v) s h = let k = below-mask n (S / 2) v (omega arith) (sym (has-suc S v) ∙ h) in omega arith

pub has-or : (S T v : ℕ) → has (bit_or S T) v ≡ (has S v || has T v)
has-or S T zero = has-zero _ ∙ grind (arith, nat_tests, or_step S T, has-zero S, has-zero T)
has-or S T (suc v) = has-suc _ v ∙ ap (λ q. has q v) (let e : bit_or S T / 2 ≡ bit_or (S / 2) (T / 2) = omega (arith, or_step S T) in e) ∙ has-or (S / 2) (T / 2) v ∙ sym (ap₂ ◌||◌ (has-suc S v) (has-suc T v))

pub has-and : (S T v : ℕ) → has (bit_and S T) v ≡ (has S v && has T v)
has-and S T zero = has-zero _ ∙ grind (arith, nat_tests, and_step S T, has-zero S, has-zero T)
has-and S T (suc v) = has-suc _ v ∙ ap (λ q. has q v) (let e : bit_and S T / 2 ≡ bit_and (S / 2) (T / 2) = omega (arith, and_step S T) in e) ∙ has-and (S / 2) (T / 2) v ∙ sym (ap₂ ◌&&◌ (has-suc S v) (has-suc T v))

pub has-single : (w v : ℕ) → has (2 ^ w) v ≡ eqb v w
has-single zero zero = has-zero 1
has-single zero (suc v) = has-suc 1 v ∙ has-none v ∙ grind (arith, nat_tests)
has-single (suc w) zero = has-zero _ ∙ ap (λ q. eqb q 1) (let e : 2 ^ suc w % 2 ≡ 0 = omega arith in e) ∙ grind (arith, nat_tests)
has-single (suc w) (suc v) = has-suc _ v ∙ ap (λ q. has q v) (let e : 2 ^ suc w / 2 ≡ 2 ^ w = omega arith in e) ∙ has-single w v ∙ grind (arith, nat_tests)

pub decides-any : (f : ℕ → Bool) (n : ℕ) → Decides (any n f) ((k : ℕ) × (k < n) × (f k ≡ true))
unfolding any
decides-any f = Decides-below_or f (λ k. f k ≡ true) (λ n. any n f) (λ k. (λ e. e, λ e. e)) refl (λ _. refl)

-- what the least number that passes is
pub record Least (n : ℕ) (f : ℕ → Bool) (m : ℕ) : Type 0 where
  pub within : m ≤ n
  pub passes : m < n → f m ≡ true
  pub before : (v : ℕ) → v < m → f v ≡ false

pub least-is : (n : ℕ) (f : ℕ → Bool) → Least n f (least n f)
unfolding least
least-is zero f = record { within = omega arith; passes = λ h. absurd (omega arith); before = λ v h. absurd (omega arith) }
least-is (suc n) f =
    let p = least-is n f in
    let m = least n f in
    cond_both (ltb m n) m (cond (f n) n (suc n)) (Least (suc n) f)
    (λ e. let l : m < n = ltb-true m n e in record { within = omega arith; passes = λ _. p.passes l; before = p.before })
    (λ e. let g : n ≤ m = ltb-false m n e in cond_both (f n) n (suc n) (Least (suc n) f)
    (λ t. record { within = omega arith; passes = λ _. t; before = λ v h. p.before v (omega arith) })
    (λ t. record {
      within = omega arith;
      passes = λ h. absurd (omega arith);
      before = λ v h. elim (cases_lt v n) [ inl l ↦ p.before v (omega arith) | inr k ↦ ap f (let q : v ≡ n = omega arith in q) ∙ t ];
    }))

pub count-max : (n : ℕ) (f : ℕ → Bool) → count n f ≤ n
unfolding count
count-max zero f = omega arith
count-max (suc n) f = let k = count-max n f in elim (f n) as (λ b. cond b 1 0 + count n f ≤ suc n) [ true ↦ omega arith | false ↦ omega arith ]

bit_le : (a b : Bool) → (a ≡ true → b ≡ true) → cond a 1 0 ≤ cond b 1 0
bit_le true b h = rw (h refl) (omega arith)
bit_le false b h = omega arith

pub count-le : (n : ℕ) (f g : ℕ → Bool) → ((v : ℕ) → v < n → f v ≡ true → g v ≡ true) → count n f ≤ count n g
unfolding count
count-le zero f g h = omega arith
count-le (suc n) f g h = omega (arith, bit_le (f n) (g n) (h n (omega arith)), count-le n f g (λ v l. h v (omega arith)))

pub count-lt : (n : ℕ) (f g : ℕ → Bool) → ((v : ℕ) → v < n → f v ≡ true → g v ≡ true) → (v : ℕ) → v < n → f v ≡ false → g v ≡ true → count n f < count n g
unfolding count
count-lt zero f g h v l out in' = absurd (omega arith)
count-lt (suc n) f g h v l out in' = elim (cases_lt v n) [
  | inl k ↦ omega (arith, bit_le (f n) (g n) (h n (omega arith)), count-lt n f g (λ w m. h w (omega arith)) v k out in')
  | inr k ↦ let e : v ≡ n = omega arith in omega (arith, ap {B = ℕ} (λ b. cond b 1 0) (ap f (sym e) ∙ out), ap {B = ℕ} (λ b. cond b 1 0) (ap g (sym e) ∙ in'), count-le n f g (λ w m. h w (omega arith)))
]

-- the other way round, where the counts are no further apart
pub count-back : (n : ℕ) (f g : ℕ → Bool) → ((v : ℕ) → v < n → f v ≡ true → g v ≡ true) → count n g ≤ count n f → (v : ℕ) → v < n → g v ≡ true → f v ≡ true
count-back n f g h le v l in' = certain (λ out. let k = count-lt n f g h v l out in' in omega arith)
