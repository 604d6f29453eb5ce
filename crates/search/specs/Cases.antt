-- Worked cases of the search, the head being node 0.
use Rattle.std.specs.Prelude.{◌≡◌, ℕ, ◌+◌, ◌^◌, List, [], ◌∷◌, map}
use Rattle.network.specs.declared.branch.Branch.{Branch}
use Rattle.network.specs.declared.branch.Condition.{Condition}
use Rattle.network.specs.declared.branch.Condition.TheVariants.{Able, Failed, Working}
use Rattle.search.specs.declared.status.Status.{Status}
use Rattle.search.specs.declared.status.Status.TheVariants.{Finished}
use Rattle.network.specs.Meaning.{Net}
use Rattle.search.specs.Search.{status, branch_set, node_vector, aimed, run}

abbrev pub joining : ℕ → ℕ → Branch
joining u v = record { from = u; to = v; condition = Able }

abbrev pub network : ℕ → List Branch → Net
network n bs = record { nodes = n; branches = bs }

-- two paths of two branches each, and a branch across in a condition of its own
abbrev pub bridge : Condition → Net
bridge c = network 4 (joining 0 1 ∷ joining 0 2 ∷ record { from = 1; to = 2; condition = c } ∷ joining 1 3 ∷ joining 2 3 ∷ [])

-- the set of some numbers
abbrev pub set_of : List ℕ → ℕ
set_of [] = 0
set_of (k ∷ ks) = 2 ^ k + set_of ks

-- what a search shows after at most ten tries
pub record Shown : Type 0 where
  pub cuts : List ℕ
  pub vectors : List ℕ
  pub tries : ℕ
  pub is : Status

unfoldable pub shown : Net → ℕ → Shown
shown net door =
    let s = run net door 10 (aimed net 0 door) in
    record { cuts = map (branch_set net) s.rows; vectors = map (node_vector net) s.rows; tries = s.tries; is = status net door s.rows }

abbrev pub finds : List (List ℕ) → List (List ℕ) → ℕ → Shown
finds cuts vectors tries = record { cuts = map set_of cuts; vectors = map set_of vectors; tries = tries; is = Finished }

-- what each of six networks shows
pub record SixNetworksSearched : Type 0 where
  pub crossed : shown (bridge Able) 3
      ≡ finds ((0 ∷ 1 ∷ []) ∷ (1 ∷ 2 ∷ 3 ∷ []) ∷ (0 ∷ 2 ∷ 4 ∷ []) ∷ (3 ∷ 4 ∷ []) ∷ []) ((1 ∷ 2 ∷ 3 ∷ []) ∷ (2 ∷ 3 ∷ []) ∷ (1 ∷ 3 ∷ []) ∷ (3 ∷ []) ∷ []) 3
  pub tied : shown (bridge Working) 3 ≡ finds ((0 ∷ 1 ∷ []) ∷ (3 ∷ 4 ∷ []) ∷ []) ((1 ∷ 2 ∷ 3 ∷ []) ∷ (3 ∷ []) ∷ []) 2
  pub parted : shown (bridge Failed) 3
      ≡ finds ((0 ∷ 1 ∷ []) ∷ (1 ∷ 3 ∷ []) ∷ (0 ∷ 4 ∷ []) ∷ (3 ∷ 4 ∷ []) ∷ []) ((1 ∷ 2 ∷ 3 ∷ []) ∷ (2 ∷ 3 ∷ []) ∷ (1 ∷ 3 ∷ []) ∷ (3 ∷ []) ∷ []) 3
  -- a triangle and one branch more to the door: one try writes no row
  pub tailed : shown (network 4 (joining 0 1 ∷ joining 0 2 ∷ joining 1 2 ∷ joining 2 3 ∷ [])) 3
      ≡ finds ((0 ∷ 1 ∷ []) ∷ (1 ∷ 2 ∷ []) ∷ (3 ∷ []) ∷ []) ((1 ∷ 2 ∷ 3 ∷ []) ∷ (2 ∷ 3 ∷ []) ∷ (3 ∷ []) ∷ []) 3
  pub ring : shown (network 4 (joining 0 1 ∷ joining 1 2 ∷ joining 2 3 ∷ joining 3 0 ∷ [])) 2
      ≡ finds ((0 ∷ 3 ∷ []) ∷ (1 ∷ 3 ∷ []) ∷ (0 ∷ 2 ∷ []) ∷ (1 ∷ 2 ∷ []) ∷ []) ((1 ∷ 2 ∷ 3 ∷ []) ∷ (2 ∷ 3 ∷ []) ∷ (1 ∷ 2 ∷ []) ∷ (2 ∷ []) ∷ []) 3
  -- a branch that leads nowhere else is in no cut
  pub spur : shown (network 3 (joining 0 1 ∷ joining 0 2 ∷ [])) 1 ≡ finds ((0 ∷ []) ∷ []) ((1 ∷ []) ∷ []) 0
