-- What the search finds, in terms of minimal cuts.
use Rattle.std.specs.Prelude.{◌≡◌, ℕ, ◌+◌, ◌-◌, ◌*◌, ◌^◌, ◌<◌, ◌≤◌, Bool, true, false, ◌⊎◌, length, Decides, ◌≢◌}
use Rattle.network.specs.Meaning.{Net, Legal}
use Rattle.sets.specs.Masks.{◌∈◌}
use Rattle.search.specs.declared.status.Status.TheVariants.{Finished, More}
use Rattle.search.specs.Cuts.{Joined, Link, Chain, Cut, MinimalCut, ables, branches_of, sure, present}
use Rattle.search.specs.Search.{Search, share, touches, neighbours, linked, closure, status, row_at, branch_set, node_vector, candidate, aimed, run}

-- what the questions of an accepted aim show
pub record Aim (net : Net) (head door : ℕ) : Type 0 where
  pub head_below : head < net.nodes
  pub door_below : door < net.nodes
  pub other : head ≡ door → ⊥
  pub joined : Joined net (present net) head door
  pub unsure : Joined net (sure net) head door → ⊥

-- no row has a candidate
abbrev pub Exhausted : Net → Search → Type 0
Exhausted net s = (i v : ℕ) → i < length s.rows → v < net.nodes → candidate net (row_at s.rows i) v ≡ false

pub record Sound (net : Net) (head door : ℕ) (s : Search) : Type 0 where
  -- each row's branch set is a minimal cut of the door
  pub minimal : (i : ℕ) → i < length s.rows → MinimalCut net head door (branch_set net (row_at s.rows i))
  -- no two rows have the same
  pub distinct : (i j : ℕ) → i < length s.rows → j < length s.rows → branch_set net (row_at s.rows i) ≡ branch_set net (row_at s.rows j) → i ≡ j
  -- the search is finished just where no row has a candidate
  pub finished : status net door s.rows ≡ Finished → Exhausted net s
  pub exhausted : Exhausted net s → status net door s.rows ≡ Finished
  -- and then every minimal cut is listed
  pub complete : status net door s.rows ≡ Finished
      → (Z : ℕ) → MinimalCut net head door Z → (i : ℕ) × (i < length s.rows) × (branch_set net (row_at s.rows i) ≡ Z)
  -- and every cut holds a listed one
  pub covered : status net door s.rows ≡ Finished
      → (Z : ℕ) → Cut net head door Z → (i : ℕ) × (i < length s.rows) × ((k : ℕ) → k ∈ branch_set net (row_at s.rows i) → k ∈ Z)
  -- the number of tries
  pub few_tries : s.tries ≤ length s.rows * (net.nodes - 2)

-- after any number of tries, for every network and every aim that is accepted
abbrev pub SearchSound : Type 0
SearchSound = (net : Net) (head door : ℕ) → Legal net → Aim net head door → (k : ℕ) → Sound net head door (run net door k (aimed net head door))

-- reached from J over working branches
abbrev pub Held : Net → ℕ → ℕ → Type 0
Held net J v = (u : ℕ) × (u ∈ J) × Joined net (sure net) u v

-- the closure of J: all nodes where J holds the door, and otherwise each node without a chain of present branches to the door that avoids what J holds
pub record Closes (net : Net) (door J C : ℕ) : Type 0 where
  pub nodes_only : C < 2 ^ net.nodes
  pub with_door : Held net J door → (v : ℕ) → v < net.nodes → v ∈ C
  pub kept_off : (Held net J door → ⊥) → (v : ℕ) → v ∈ C → Chain (Link net (present net)) (λ x. Held net J x → ⊥) v door → ⊥
  pub closed_in : (Held net J door → ⊥) → (v : ℕ) → v < net.nodes → (Chain (Link net (present net)) (λ x. Held net J x → ⊥) v door → ⊥) → v ∈ C

abbrev pub ClosureCloses : Type 0
ClosureCloses = (net : Net) (door J : ℕ) → Legal net → door < net.nodes → J < 2 ^ net.nodes → Closes net door J (closure net door J)

-- the test for a chain tells whether there is one
abbrev pub LinkedTells : Type 0
LinkedTells = (net : Net) (kept : ℕ → Bool) → Legal net → (u v : ℕ) → u < net.nodes → Decides (linked net kept u v) (Joined net kept u v)

-- a set of branches that can fail which holds a cut is a cut
abbrev pub LargerCuts : Type 0
LargerCuts = (net : Net) (head door Y Z : ℕ) → Cut net head door Y → ((k : ℕ) → k ∈ Y → k ∈ Z)
    → Z < 2 ^ branches_of net → ((k : ℕ) → k ∈ Z → ables net k ≡ true) → Cut net head door Z

-- more tries leave what was listed where it was
pub record Keeps (net : Net) (s t : Search) : Type 0 where
  pub rows_stay : length s.rows ≤ length t.rows
  pub cuts_stay : (i : ℕ) → i < length s.rows → branch_set net (row_at t.rows i) ≡ branch_set net (row_at s.rows i)

abbrev pub RunKeeps : Type 0
RunKeeps = (net : Net) (door k : ℕ) (s : Search) → Keeps net s (run net door k s)

-- portions add up
abbrev pub RunAdds : Type 0
RunAdds = (net : Net) (door j k : ℕ) (s : Search) → run net door (j + k) s ≡ run net door k (run net door j s)

-- k tries are made, or fewer where the search finished or had no room
abbrev pub RunCounts : Type 0
RunCounts = (net : Net) (door k : ℕ) (s : Search)
    → ((run net door k s).tries ≡ s.tries + k) ⊎ (((run net door k s).tries < s.tries + k) × (status net door (run net door k s).rows ≢ More))

-- seen from the door, the cuts are the same
abbrev pub EitherEnd : Type 0
EitherEnd = (net : Net) (head door : ℕ) → Legal net → Aim net head door → (j k : ℕ)
    → status net head (run net head k (aimed net door head)).rows ≡ Finished
    → (i : ℕ) → i < length (run net door j (aimed net head door)).rows
    → (m : ℕ) × (m < length (run net head k (aimed net door head)).rows)
    × (branch_set net (row_at (run net head k (aimed net door head)).rows m) ≡ branch_set net (row_at (run net door j (aimed net head door)).rows i))

-- a set of nodes is touched just where it has a neighbour
abbrev pub NeighboursSuffice : Type 0
NeighboursSuffice = (net : Net) (kept : ℕ → Bool) → Legal net → (S v : ℕ) → touches net kept S v ≡ share (neighbours net kept v) S

-- a row's branch set is a minimal cut of just those doors that its node vector holds
abbrev pub VectorsTell : Type 0
VectorsTell = (net : Net) (head door : ℕ) → Legal net → Aim net head door → (k i : ℕ) → i < length (run net door k (aimed net head door)).rows
    → (x : ℕ) → Aim net head x
    → let r = row_at (run net door k (aimed net head door)).rows i in
    (x ∈ node_vector net r → MinimalCut net head x (branch_set net r)) × (MinimalCut net head x (branch_set net r) → x ∈ node_vector net r)

-- a minimal cut of a door is one of the lowest door that it parts from the head
abbrev pub LowestDoor : Type 0
LowestDoor = (net : Net) (head x Z : ℕ) → Legal net → Aim net head x → MinimalCut net head x Z
    → (y : ℕ) × (y ≤ x) × Aim net head y × MinimalCut net head y Z × ((v : ℕ) → v < y → MinimalCut net head v Z → Aim net head v → ⊥)
