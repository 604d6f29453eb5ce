-- Chains of links.
use Rattle.std.proofs.Common.{◌≡◌, ℕ, Bool, true, false, inl, inr}
use Rattle.std.proofs.lemmas.Bool.{cases_Bool}
use Rattle.search.specs.Cuts.{Chain, here, step}
use Rattle.sets.proofs.Members.{clash}

pub starts : {R : ℕ → ℕ → Type 0} {P : ℕ → Type 0} {u w : ℕ} → Chain R P u w → P u
starts (here p) = p
starts (step p r c) = p

pub ends : {R : ℕ → ℕ → Type 0} {P : ℕ → Type 0} {u w : ℕ} → Chain R P u w → P w
ends (here p) = p
ends (step p r c) = ends c

pub append : {R : ℕ → ℕ → Type 0} {P : ℕ → Type 0} {u v w : ℕ} → Chain R P u v → Chain R P v w → Chain R P u w
append (here p) d = d
append (step p r c) d = step p r (append c d)

pub back : {R : ℕ → ℕ → Type 0} {P : ℕ → Type 0} → ((x y : ℕ) → R x y → R y x) → {u w : ℕ} → Chain R P u w → Chain R P w u
back s (here p) = here p
back s (step {u = u} {v = v} p r c) = append (back s c) (step (starts c) (s u v r) (here p))

-- with other links and within another set
pub moved : {R R' : ℕ → ℕ → Type 0} {P P' : ℕ → Type 0} → ((x y : ℕ) → P x → P y → R x y → R' x y) → ((x : ℕ) → P x → P' x)
    → {u w : ℕ} → Chain R P u w → Chain R' P' u w
moved f g (here {u = u} p) = here (g u p)
moved f g (step {u = u} {v = v} p r c) = step (g u p) (f u v p (starts c) r) (moved f g c)

-- within what each link keeps
pub kept : {R : ℕ → ℕ → Type 0} {P : ℕ → Type 0} (Q : ℕ → Type 0) → ((x y : ℕ) → P x → P y → R x y → Q x → Q y)
    → {u w : ℕ} → Q u → Chain R P u w → Chain R Q u w
kept Q f q (here p) = here q
kept Q f q (step {u = u} {v = v} p r c) = step q r (kept Q f (f u v p (starts c) r q) c)

-- the link by which a chain leaves a set, and the rest of it
pub record Leaves (R : ℕ → ℕ → Type 0) (P : ℕ → Type 0) (f : ℕ → Bool) (w : ℕ) : Type 0 where
  pub x : ℕ
  pub y : ℕ
  pub in_x : f x ≡ true
  pub out_y : f y ≡ false
  pub within : P x
  pub link : R x y
  pub rest : Chain R P y w

pub leaves : {R : ℕ → ℕ → Type 0} {P : ℕ → Type 0} (f : ℕ → Bool) {u w : ℕ} → f u ≡ true → f w ≡ false → Chain R P u w → Leaves R P f w
leaves f i o (here {u = u} p) = absurd (clash o i)
leaves f i o (step {u = u} {v = v} p r c) = elim (cases_Bool (f v)) [
  | inl t ↦ leaves f t o c
  | inr t ↦ record { x = u; y = v; in_x = i; out_y = t; within = p; link = r; rest = c }
]
