-- What the layers do, in terms of the networks below them.
use Rattle.std.specs.Prelude.{◌≡◌, ℕ, ◌+◌, ◌-◌, ◌<◌, ◌≤◌, List, length, Some, None, Option, ◌≢◌}
use Rattle.std.specs.List.{slice_get}
use Rattle.network.specs.declared.branch.Branch.{Branch}
use Rattle.network.specs.declared.branch.Condition.{Condition}
use Rattle.network.specs.declared.rating.Rating.{Rating}
use Rattle.network.specs.Meaning.{Net, RatedNet, empty_net}
use Rattle.layers.specs.Meaning.{retold_rated, joint_rated}

-- `told` is the network below with branch k told as c
pub record Marked (c : Condition) (k : ℕ) (below told : Net) : Type 0 where
  pub the_nodes_are_those_below : told.nodes ≡ below.nodes
  pub the_count_is_that_below : length told.branches ≡ length below.branches
  pub branch_k_keeps_its_ends : (b : Branch) → slice_get below.branches k ≡ Some b
      → slice_get told.branches k ≡ Some (record { from = b.from; to = b.to; condition = c })
  pub other_branches_stay : (j : ℕ) → (j ≢ k) → slice_get told.branches j ≡ slice_get below.branches j
  pub past_the_count_nothing_changes : length below.branches ≤ k → told ≡ below
  pub ratings_are_carried_along : (net : RatedNet) → (retold_rated c k net).ratings ≡ net.ratings

-- what a layer that tells branch `marked` as c answers to k, where the network below answers `below`
pub record MarkedBranch (c : Condition) (marked k : ℕ) (below answer : Option Branch) : Type 0 where
  pub the_marked_branch_keeps_its_ends : k ≡ marked → (b : Branch) → below ≡ Some b → answer ≡ Some (record { from = b.from; to = b.to; condition = c })
  pub other_branches_stay : k ≢ marked → answer ≡ below
  pub past_the_count_there_is_none : below ≡ None → answer ≡ None

-- the first has a node j, the second has a node, and together they keep to 32 nodes and 64 branches
pub record Joinable (j : ℕ) (first second : Net) : Type 0 where
  pub node : j < first.nodes
  pub some : 0 < second.nodes
  pub nodes : first.nodes + second.nodes - 1 ≤ 32
  pub branches : length first.branches + length second.branches ≤ 64

-- node i of the second network is node v of a joint at node j of a first network with n nodes
pub record Renumbered (n j i v : ℕ) : Type 0 where
  pub node_0_becomes_j : i ≡ 0 → v ≡ j
  pub others_follow_the_first : 0 < i → v ≡ n + i - 1

-- branch b of the second network is branch c of the joint
pub record Moved (n j : ℕ) (b c : Branch) : Type 0 where
  pub from : Renumbered n j b.from c.from
  pub to : Renumbered n j b.to c.to
  pub condition : c.condition ≡ b.condition

-- `joint` is the joint of two networks at node j of the first
pub record Joined (j : ℕ) (first second joint : Net) : Type 0 where
  pub nodes_are_counted_once : Joinable j first second → joint.nodes ≡ first.nodes + second.nodes - 1
  pub every_branch_is_there : Joinable j first second → length joint.branches ≡ length first.branches + length second.branches
  pub branches_of_the_first_stay : Joinable j first second → (k : ℕ) → k < length first.branches → slice_get joint.branches k ≡ slice_get first.branches k
  pub branches_of_the_second_follow : Joinable j first second → (k : ℕ) (b : Branch) → slice_get second.branches k ≡ Some b
      → (c : Branch) × (slice_get joint.branches (length first.branches + k) ≡ Some c) × Moved first.nodes j b c
  pub else_it_is_empty : (Joinable j first second → ⊥) → joint ≡ empty_net
  pub ratings_are_carried_along : (p q : RatedNet) → p.plain ≡ first → q.plain ≡ second → length p.ratings ≡ length first.branches → Joinable j first second
      → (k : ℕ) → (k < length first.branches → slice_get (joint_rated j p q).ratings k ≡ slice_get p.ratings k)
      × (slice_get (joint_rated j p q).ratings (length first.branches + k) ≡ slice_get q.ratings k)

-- what a joint at node j answers to a count: the count of both, where they can be joined
pub record JoinedCount (j : ℕ) (first second : Net) (both answer : ℕ) : Type 0 where
  pub both_are_counted : Joinable j first second → answer ≡ both
  pub else_there_is_none : (Joinable j first second → ⊥) → answer ≡ 0

abbrev pub JoinedNodes : ℕ → Net → Net → ℕ → Type 0
JoinedNodes j first second answer = JoinedCount j first second (first.nodes + second.nodes - 1) answer

abbrev pub JoinedBranches : ℕ → Net → Net → ℕ → Type 0
JoinedBranches j first second answer = JoinedCount j first second (length first.branches + length second.branches) answer

-- what a joint at node j answers to k
pub record JoinedBranch (j : ℕ) (first second : Net) (k : ℕ) (answer : Option Branch) : Type 0 where
  pub branches_of_the_first_stay : Joinable j first second → k < length first.branches → answer ≡ slice_get first.branches k
  pub branches_of_the_second_follow : Joinable j first second → (i : ℕ) (b : Branch) → k ≡ length first.branches + i → slice_get second.branches i ≡ Some b
      → (c : Branch) × (answer ≡ Some c) × Moved first.nodes j b c
  pub past_both_there_is_none : Joinable j first second → length first.branches + length second.branches ≤ k → answer ≡ None
  pub else_there_is_none : (Joinable j first second → ⊥) → answer ≡ None

-- the same for a rating, where the two networks tell these ratings
pub record JoinedRating (j : ℕ) (first second : Net) (ratings more : List Rating) (k : ℕ) (answer : Option Rating) : Type 0 where
  pub ratings_of_the_first_stay : Joinable j first second → k < length first.branches → answer ≡ slice_get ratings k
  pub ratings_of_the_second_follow : Joinable j first second → (i : ℕ) → k ≡ length first.branches + i → answer ≡ slice_get more i
  pub else_there_is_none : (Joinable j first second → ⊥) → answer ≡ None
