-- A list of branches with one told as another condition.
use Rattle.std.proofs.Common.{◌≡◌, ℕ, zero, suc, cond, eqb, List, [], ◌∷◌, refl}
use lib.Dec.{eqb-zero-suc, eqb-suc-zero, eqb-suc-suc}
use Rattle.std.specs.List.{slice_get}
use Rattle.std.specs.Option.{option_map}
use Rattle.network.specs.declared.branch.Branch.{Branch}
use Rattle.network.specs.declared.branch.Condition.{Condition}
use Rattle.layers.specs.Meaning.{told, retold_at}
use Rattle.sets.proofs.Nth.{mapped-id}

pub nth-retold_at : (c : Condition) (j k : ℕ) (bs : List Branch) → slice_get (retold_at c j bs) k ≡ option_map (λ b. cond (eqb k j) (told c b) b) (slice_get bs k)
nth-retold_at c j k [] = refl
nth-retold_at c zero zero (b ∷ bs) = refl
nth-retold_at c zero (suc k) (b ∷ bs) = simp eqb-suc-zero (mapped-id (slice_get bs k))
nth-retold_at c (suc j) zero (b ∷ bs) = simp eqb-zero-suc
nth-retold_at c (suc j) (suc k) (b ∷ bs) = simp eqb-suc-suc (nth-retold_at c j k bs)
