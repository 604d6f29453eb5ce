-- The search for minimal cuts: closures, rows, tries and runs of tries.
use Rattle.std.specs.Prelude.{ℕ, zero, suc, ◌+◌, Bool, cond, not, ◌&&◌, ◌||◌, List, [], ◌∷◌, ◌++◌, length, ◌==◌, bit_or, nat_eq, nat_le, nat_lt, slice_index_or, slice_set}
use Rattle.network.specs.declared.branch.Branch.{Branch}
use Rattle.network.specs.Meaning.{Net}
use Rattle.sets.specs.Masks.{has, collect, any, least}
use Rattle.search.specs.declared.row.Row.{Row}
use Rattle.search.specs.declared.status.Status.{Status}
use Rattle.search.specs.declared.status.Status.TheVariants.{Finished, Full, More}
use Rattle.search.specs.Cuts.{branch, branches_of, ables, sure, present}

-- Node sets

-- the set of node v alone; a number past 31 is no node, and its set is empty
abbrev pub single : ℕ → ℕ
single v = collect 32 (λ w. nat_eq w v)

-- whether two sets have a node in common
abbrev pub share : ℕ → ℕ → Bool
share S T = any 32 (λ v. has S v && has T v)

-- Reach

-- whether b joins v to a member of S
abbrev pub meets : Branch → ℕ → ℕ → Bool
meets b S v = (b.from == v && has S b.to) || (b.to == v && has S b.from)

-- whether a branch that `kept` names joins v to a member of S
unfoldable pub touches : Net → (ℕ → Bool) → ℕ → ℕ → Bool
touches net kept S v = any (branches_of net) (λ k. kept k && meets (branch net k) S v)

-- the nodes next to v over the branches that `kept` names
unfoldable pub neighbours : Net → (ℕ → Bool) → ℕ → ℕ
neighbours net kept v = collect net.nodes (λ u. touches net kept (single u) v)

-- S with each number below n that is near it; and so r times over
unfoldable pub widened : ℕ → (ℕ → ℕ → Bool) → ℕ → ℕ
widened n near S = collect n (λ v. has S v || near S v)

unfoldable pub spread : ℕ → (ℕ → ℕ → Bool) → ℕ → ℕ → ℕ
spread n near zero S = S
spread n near (suc r) S = spread n near r (widened n near S)

-- whether the branches that `kept` names join u and v
unfoldable pub linked : Net → (ℕ → Bool) → ℕ → ℕ → Bool
linked net kept u v = has (spread net.nodes (touches net kept) net.nodes (single u)) v

-- Closures

-- J with every node reached from it over working branches
unfoldable pub held : Net → ℕ → ℕ
held net J = spread net.nodes (touches net (sure net)) net.nodes J

-- the nodes with a chain of present branches to the door that avoids J
unfoldable pub outside : Net → ℕ → ℕ → ℕ
outside net door J = spread net.nodes (λ S v. not (has J v) && touches net (present net) S v) net.nodes (single door)

-- every node without such a chain that avoids what J holds; all nodes where that has the door
unfoldable pub closure : Net → ℕ → ℕ → ℕ
closure net door J =
    let H = held net J in
    let O = outside net door H in
    collect net.nodes (λ v. has H door || not (has O v))

-- Rows

-- the branches able to fail with exactly one end inside
unfoldable pub crossing : Net → ℕ → ℕ → Bool
crossing net K k = ables net k && ((has K (branch net k).from && not (has K (branch net k).to)) || (has K (branch net k).to && not (has K (branch net k).from)))

unfoldable pub branch_set : Net → Row → ℕ
branch_set net r = collect (branches_of net) (crossing net r.inside)

unfoldable pub node_vector : Net → Row → ℕ
node_vector net r = collect net.nodes (λ v. not (has r.inside v))

-- a node neither inside nor barred that a present branch joins to an inside node
unfoldable pub candidate : Net → Row → ℕ → Bool
candidate net r v = not (has r.inside v) && not (has r.barred v) && touches net (present net) r.inside v

-- the lowest candidate of a row; the node count where it has none
unfoldable pub lowest_candidate : Net → Row → ℕ
lowest_candidate net r = least net.nodes (candidate net r)

abbrev pub open_row : Net → Row → Bool
open_row net r = nat_lt (lowest_candidate net r) net.nodes

abbrev pub row_at : List Row → ℕ → Row
row_at rows i = slice_index_or rows i (record { inside = 0; barred = 0 })

-- the first row that has a candidate; the row count where none has one
unfoldable pub current : Net → List Row → ℕ
current net rows = least (length rows) (λ i. open_row net (row_at rows i))

-- One try

-- the closure that a try on a row takes, and whether it holds no barred node
unfoldable pub grown : Net → ℕ → Row → ℕ
grown net door r = closure net door (bit_or r.inside (single (lowest_candidate net r)))

unfoldable pub writes : Net → ℕ → Row → Bool
writes net door r = not (share (grown net door r) r.barred)

abbrev pub room : ℕ
room = 512

unfoldable pub status : Net → ℕ → List Row → Status
status net door rows =
    let i = current net rows in
    cond (nat_lt i (length rows)) (cond (nat_le room (length rows) && writes net door (row_at rows i)) Full More) Finished

-- the current row with its lowest candidate barred
unfoldable pub barring : Net → Row → Row
barring net r = record { inside = r.inside; barred = bit_or r.barred (single (lowest_candidate net r)) }

-- the rows that a try adds: none or one
unfoldable pub written : Net → ℕ → Row → List Row
written net door r = cond (writes net door r) (record { inside = grown net door r; barred = r.barred } ∷ []) []

-- the rows after one try
unfoldable pub tried : Net → ℕ → List Row → List Row
tried net door rows =
    let i = current net rows in
    slice_set rows i (barring net (row_at rows i)) ++ written net door (row_at rows i)

-- Runs

-- the rows so far, and the number of tries that made them
pub record Search : Type 0 where
  pub rows : List Row
  pub tries : ℕ

abbrev pub searched : List Row → ℕ → Search
searched rows tries = record { rows = rows; tries = tries }

abbrev pub first_row : Net → ℕ → ℕ → Row
first_row net head door = record { inside = closure net door (single head); barred = single door }

-- the search of an accepted aim, before its first try
abbrev pub aimed : Net → ℕ → ℕ → Search
aimed net head door = record { rows = first_row net head door ∷ []; tries = 0 }

-- one try, where the status allows one
unfoldable pub next : Net → ℕ → Search → Search
next net door s = elim (status net door s.rows) [
  | Finished ↦ s
  | Full ↦ s
  | More ↦ record { rows = tried net door s.rows; tries = s.tries + 1 }
]

-- at most k tries, one after another
unfoldable pub run : Net → ℕ → ℕ → Search → Search
run net door zero s = s
run net door (suc k) s = run net door k (next net door s)
