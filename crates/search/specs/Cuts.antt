-- Chains of branches, cuts and minimal cuts.
use Rattle.std.specs.Prelude.{◌≡◌, ℕ, ◌^◌, ◌<◌, Bool, true, false, not, ◌&&◌, ◌⊎◌, length, ◌≢◌, slice_index_or}
use Rattle.network.specs.declared.branch.Branch.{Branch}
use Rattle.network.specs.declared.branch.Condition.{Condition}
use Rattle.network.specs.declared.branch.Condition.TheVariants.{Able, Failed, Working}
use Rattle.network.specs.Meaning.{Net}
use Rattle.sets.specs.Masks.{has, ◌∈◌}

-- branch k; past the count, one that is absent
abbrev pub branch : Net → ℕ → Branch
branch net k = slice_index_or net.branches k (record { from = 0; to = 0; condition = Failed })

abbrev pub branches_of : Net → ℕ
branches_of net = length net.branches

abbrev pub is_able : Condition → Bool
is_able Able = true
is_able Failed = false
is_able Working = false

abbrev pub is_working : Condition → Bool
is_working Able = false
is_working Failed = false
is_working Working = true

abbrev pub is_present : Condition → Bool
is_present Able = true
is_present Failed = false
is_present Working = true

-- the branches that can fail, those that cannot, those that are there, and those that are there once all of Z count as failed
abbrev pub ables : Net → ℕ → Bool
ables net k = is_able (branch net k).condition

abbrev pub sure : Net → ℕ → Bool
sure net k = is_working (branch net k).condition

abbrev pub present : Net → ℕ → Bool
present net k = is_present (branch net k).condition

abbrev pub without : Net → ℕ → ℕ → Bool
without net Z k = present net k && not (has Z k)

-- the two ends of a branch, whichever way round
abbrev pub Ends : Branch → ℕ → ℕ → Type 0
Ends b u v = ((b.from ≡ u) × (b.to ≡ v)) ⊎ ((b.from ≡ v) × (b.to ≡ u))

-- one of the branches that `kept` names joins u and v
pub record Link (net : Net) (kept : ℕ → Bool) (u v : ℕ) : Type 0 where
  pub by : ℕ
  pub below : by < branches_of net
  pub is_kept : kept by ≡ true
  pub ends : Ends (branch net by) u v

-- a chain of links, all of whose nodes lie within a set; an empty one joins a node to itself
pub data Chain (link : ℕ → ℕ → Type 0) (within : ℕ → Type 0) : ℕ → ℕ → Type 0 where
  here : {u : ℕ} → within u → Chain link within u u
  step : {u v w : ℕ} → within u → link u v → Chain link within v w → Chain link within u w

-- a chain of the branches that `kept` names leads from u to v
abbrev pub Joined : Net → (ℕ → Bool) → ℕ → ℕ → Type 0
Joined net kept u v = Chain (Link net kept) (λ _. Unit {0}) u v

-- a set of branches that can fail, which leaves head and door unjoined once all of them count as failed
pub record Cut (net : Net) (head door Z : ℕ) : Type 0 where
  pub small : Z < 2 ^ branches_of net
  pub all_able : (k : ℕ) → k ∈ Z → ables net k ≡ true
  pub apart : Joined net (without net Z) head door → ⊥

-- no smaller part of it is a cut
pub record MinimalCut (net : Net) (head door Z : ℕ) : Type 0 where
  pub cut : Cut net head door Z
  pub minimal : (Y : ℕ) → ((k : ℕ) → k ∈ Y → k ∈ Z) → (Y ≢ Z) → Cut net head door Y → ⊥
