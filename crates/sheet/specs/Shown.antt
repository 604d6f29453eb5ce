-- What a generic line writes, where its numbers say what they write.
use Rattle.std.specs.Prelude.{ℕ, List, [], ◌∷◌, Some, None, Option}
use Rattle.std.specs.Fmt.{◌++?◌}
use Rattle.chance.specs.declared.bounds.Bounds.{Bounds}

-- the bounds, each after its word, where a number writes what output says
abbrev pub bounds_output : {T : Type 0} → (T → Option (List ℕ)) → List ℕ → List ℕ → Option (Bounds T) → Option (List ℕ)
bounds_output output low_word high_word (Some b) = Some low_word ++? (output b.low ++? (Some high_word ++? (output b.high ++? Some (10 ∷ []))))
bounds_output output low_word high_word None = Some []
