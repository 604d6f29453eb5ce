-- The questions of a call, in order: the first that is answered no decides, and its number, layer and place are what the
-- caller is told.
use Rattle.std.specs.Prelude.{ℕ, Bool, cond, List, [], ◌∷◌, Some, None, Ok, Err, Option, Result}
use Rattle.refusals.specs.declared.layer.Layer.{Layer}
use Rattle.refusals.specs.declared.layer.Refusal.{Refusal}

-- a question by its number, layer and place, and whether it is answered yes
pub record Question : Type 0 where
  pub number : ℕ
  pub layer : Layer
  pub place : ℕ
  pub yes : Bool

-- the refusal of the first question that is answered no
abbrev pub first_no : List Question → Option Refusal
first_no [] = None
first_no (q ∷ qs) = cond q.yes (first_no qs) (Some (record { number = q.number; layer = q.layer; place = q.place }))

-- the refusal of an answer, where tells says what each fault tells
abbrev pub refusal_of : {T F : Type 0} → (F → Refusal) → Result T F → Option Refusal
refusal_of tells (Ok x) = None
refusal_of tells (Err f) = Some (tells f)
