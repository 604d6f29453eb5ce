-- The same sets and searches as loops and shifts make them.
use Rattle.std.proofs.Common.{◌≡◌, ℕ, suc, ◌+◌, ◌/◌, ◌^◌, ◌<◌, Bool, true, false, cond, ◌&&◌, ◌||◌, eqb, ◌⊎◌, sym, refl, ap, ◌∙◌, ap₂, inl, inr, add-one, arith}
use mathlib.Core.Bool.{or-false, and-true}
use lib.Bits.{bit_and, bit_or, and_mask, or_lt, or_zero_r}
use Rattle.std.proofs.lemmas.Nat.{pow_below, pow_pos}
use Rattle.std.proofs.lemmas.Bool.{cases_lt, cases_order, and_right, eq-eqb, ne_eqb, eqb-true, or_cases}
use Rattle.sets.specs.Masks.{has, collect, least, ◌∈◌, ◌∉◌}
use Rattle.sets.proofs.Members.{clash, refuted, has-collect, collect-small, below-mask, same-mask, has-or, has-single, has-none, Least, least-is}

-- `(S >> v) & 1 == 1`
pub has-shift : (S v : ℕ) → eqb (bit_and (S / 2 ^ v) 1) 1 ≡ has S v
unfolding has
has-shift S v = ap (λ q. eqb q 1) (and_mask (S / 2 ^ v) 1)

has-cond : (b : Bool) (w v : ℕ) → has (cond b (2 ^ w) 0) v ≡ (b && eqb v w)
has-cond true w v = has-single w v
has-cond false w v = has-none v

cond_small : (b : Bool) (w : ℕ) → cond b (2 ^ w) 0 < 2 ^ suc w
cond_small true w = pow_below w (suc w) (omega arith)
cond_small false w = pow_pos (suc w)

-- one more turn of `if f(n) { m |= 1 << n }`
pub collect-more : (n : ℕ) (f : ℕ → Bool) → collect (suc n) f ≡ bit_or (collect n f) (cond (f n) (2 ^ n) 0)
collect-more n f = same-mask (suc n) (collect (suc n) f) (bit_or (collect n f) (cond (f n) (2 ^ n) 0)) (collect-small (suc n) f)
    (or_lt (suc n) (collect n f) (cond (f n) (2 ^ n) 0) (let p = collect-small n f in let q = pow_below n (suc n) (omega arith) in omega arith) (cond_small (f n) n))
    (λ v l. has-collect (suc n) f v l ∙ sym (has-or (collect n f) (cond (f n) (2 ^ n) 0) v ∙ at v l))
  where
    at : (v : ℕ) → v < suc n → (has (collect n f) v || has (cond (f n) (2 ^ n) 0) v) ≡ f v
    at v l = elim (cases_lt v n) [
      | inl k ↦ ap₂ ◌||◌ (has-collect n f v k) (has-cond (f n) n v ∙ and_right (f n) (eqb v n) (ne_eqb v n (λ e. omega arith))) ∙ or-false (f v)
      | inr k ↦
          let e : v ≡ n = omega arith in
          let o : v ∉ collect n f = refuted (λ t. let m = below-mask n (collect n f) v (collect-small n f) t in omega arith) in
          ap₂ ◌||◌ o (has-cond (f n) n v ∙ ap (λ b. f n && b) (eq-eqb v n e) ∙ and-true (f n)) ∙ ap f (sym e)
    ]

pub collect-yes : (n : ℕ) (f : ℕ → Bool) → f n ≡ true → collect (n + 1) f ≡ bit_or (collect n f) (2 ^ n)
collect-yes n f t = rw add-one (collect-more n f ∙ ap (λ b. bit_or (collect n f) (cond b (2 ^ n) 0)) t)

pub collect-no : (n : ℕ) (f : ℕ → Bool) → f n ≡ false → collect (n + 1) f ≡ collect n f
collect-no n f t = rw add-one (collect-more n f ∙ ap (λ b. bit_or (collect n f) (cond b (2 ^ n) 0)) t ∙ or_zero_r (collect n f))

pub collect-none : (f : ℕ → Bool) → collect 0 f ≡ 0
unfolding collect
collect-none f = refl

-- one set with one more
pub has-with : (S w v : ℕ) → v ∈ bit_or S (2 ^ w) → (v ∈ S) ⊎ (v ≡ w)
has-with S w v i = elim (or_cases (has S v) (has (2 ^ w) v) (sym (has-or S (2 ^ w) v) ∙ i)) [ inl t ↦ inl t | inr t ↦ inr (eqb-true v w (sym (has-single w v) ∙ t)) ]

-- what a loop that stops at the first has found
pub least-unique : (n : ℕ) (f : ℕ → Bool) (m : ℕ) → Least n f m → m ≡ least n f
least-unique n f m p =
    let q = least-is n f in
    elim (cases_order m (least n f)) [
      | inl e ↦ e
      | inr (inl l) ↦ absurd (clash (q.before m l) (p.passes (let r = q.within in omega arith)))
      | inr (inr l) ↦ absurd (clash (p.before (least n f) l) (q.passes (let r = p.within in omega arith)))
    ]
