-- Branches by what can befall them: whether they are able to fail, and their rating.
use Rattle.std.proofs.Common.{ℕ, zero, suc, ◌^◌, Bool, T, List, [], ◌∷◌, map}
use Rattle.sets.specs.Masks.{◌∈◌}
use Rattle.network.specs.declared.rating.Rating.{Rating}

pub record Risk : Type 0 where
  pub able : Bool
  pub rating : Rating

abbrev pub unit : Rating → ℕ
unit r = 10 ^ r.exponent

abbrev pub ratings_of : List Risk → List Rating
ratings_of bs = map (λ b. b.rating) bs

abbrev pub AbleAt : List Risk → ℕ → Type 0
AbleAt [] k = ⊥
AbleAt (b ∷ bs) zero = T b.able
AbleAt (b ∷ bs) (suc k) = AbleAt bs k

-- a set of branches that are able to fail
abbrev pub AbleRisks : List Risk → ℕ → Type 0
AbleRisks bs z = (k : ℕ) → k ∈ z → AbleAt bs k
