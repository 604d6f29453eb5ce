-- The members of a mask as a list.
use Rattle.std.proofs.Common.{◌≡◌, ℕ, zero, suc, ◌<◌, ◌≤◌, Bool, true, false, cond, not, ◌&&◌, eqb, ltb, [], ◌∷◌, ◌++◌, Some, None, sym, refl, ap, ◌∙◌, ap₂, inl, inr, arith}
use mathlib.Core.Bool.{and-true}
use Rattle.std.proofs.lemmas.Bool.{cases_lt, eq-eqb, ne_eqb, cond-true, cond-false, lt-ltb, le-ltb}
use Rattle.sets.specs.Masks.{has, collect, members, least, lowest, ◌∈◌, ◌∉◌}
use Rattle.sets.proofs.Members.{has-collect, Least, least-is}

pub members-none : (n S : ℕ) → ((v : ℕ) → v < n → v ∉ S) → members n S ≡ []
unfolding members
members-none zero S h = refl
members-none (suc n) S h = ap₂ ◌++◌ (members-none n S (λ v l. h v (omega arith))) (ap (λ b. cond b (n ∷ []) []) (h n (omega arith)))

-- T is S without its least member m
module _ (m S T : ℕ) (member : m ∈ S) (before : (v : ℕ) → v < m → v ∉ S) where
  pub members-first : (n : ℕ) → m < n → ((v : ℕ) → v < n → has T v ≡ (has S v && not (eqb v m))) → members n S ≡ m ∷ members n T
  unfolding members
  members-first zero l rest = absurd (omega arith)
  members-first (suc n) l rest = elim (cases_lt m n) [
    | inl k ↦
        let same : has S n ≡ has T n = sym (rest n (omega arith) ∙ ap (λ b. has S n && not b) (ne_eqb n m (λ e. omega arith)) ∙ and-true (has S n)) in
        ap₂ ◌++◌ (members-first n k (λ v h. rest v (omega arith))) (ap (λ b. cond b (n ∷ []) []) same)
    | inr k ↦
        let e : n ≡ m = omega arith in
        let none : members n S ≡ [] = members-none n S (λ v h. before v (omega arith)) in
        let left : members n T ≡ [] = members-none n T (λ v h. rest v (omega arith) ∙ ap (λ b. b && not (eqb v m)) (before v (omega arith))) in
        let there : has S n ≡ true = ap (has S) e ∙ member in
        let gone : has T n ≡ false = rest n (omega arith) ∙ ap₂ (λ b b'. b && not b') there (eq-eqb n m e) in
        ap₂ ◌++◌ none (ap (λ b. cond b (n ∷ []) []) there) ∙ ap (λ x. x ∷ []) e ∙ sym (ap (λ xs. m ∷ xs) (ap₂ ◌++◌ left (ap (λ b. cond b (n ∷ []) []) gone)))
  ]

-- what the lowest number that passes is
lowest-least : (n : ℕ) (f : ℕ → Bool) (m : ℕ) → Some m ≡ lowest n f → Least n f m × (m < n)
lowest-least n f m e = elim (cases_lt (least n f) n) [
  | inl l ↦
      let q : m ≡ least n f = let t : Some m ≡ Some (least n f) = e ∙ cond-true (ltb (least n f) n) _ _ (lt-ltb (least n f) n l) in cc in
      (rw q (least-is n f), omega arith)
  | inr h ↦ absurd (let t : Some m ≡ None = e ∙ cond-false (ltb (least n f) n) _ _ (le-ltb (least n f) n h) in cc)
]

lowest-past : (n : ℕ) (f : ℕ → Bool) → None ≡ lowest n f → n ≤ least n f
lowest-past n f e = elim (cases_lt (least n f) n) [
  | inl l ↦ absurd (let t : None ≡ Some (least n f) = e ∙ cond-true (ltb (least n f) n) _ _ (lt-ltb (least n f) n l) in cc)
  | inr h ↦ h
]

-- a call of `next`
pub next-none : (k S : ℕ) → None ≡ lowest k (has S) → members k S ≡ []
next-none k S e = let h = lowest-past k (has S) e in members-none k S (λ v l. (least-is k (has S)).before v (omega arith))

pub next-some : (k S m D T : ℕ) → Some m ≡ lowest k (has S) → D ≡ collect k (λ w. eqb w m) → T ≡ collect k (λ v. has S v && not (has D v)) → members k S ≡ m ∷ members k T
next-some k S m D T e d t =
    let p = lowest-least k (has S) m e in
    members-first m S T (p.0.passes p.1) p.0.before k p.1
    (λ v l. ap (λ q. has q v) t ∙ has-collect k (λ v. has S v && not (has D v)) v l ∙ ap (λ b. has S v && not b) (ap (λ q. has q v) d ∙ has-collect k (λ w. eqb w m) v l))
