-- What networks mean.
use Rattle.std.specs.Prelude.{◌≡◌, ℕ, ◌+◌, ◌<◌, ◌≤◌, cond, List, [], ◌∷◌, ◌++◌, map, length, replicate, codes, decimal, ◌==◌}
use Rattle.std.specs.List.{range_with_len, AllByRecursion}
use Rattle.network.specs.declared.branch.Branch.{Branch}
use Rattle.network.specs.declared.branch.TableRow.{TableRow}
use Rattle.network.specs.declared.branch.Condition.{Condition}
use Rattle.network.specs.declared.branch.Condition.TheVariants.{Able, Failed, Working}
use Rattle.network.specs.declared.rating.Rating.{Rating}
use Rattle.network.specs.Ratings.{rating_from}

-- A, F or W
abbrev pub letter : Condition → ℕ
letter Able = 65
letter Failed = 70
letter Working = 87

-- a branch in words: end end c, with c the letter of the condition
abbrev pub branch_text : Branch → List ℕ
branch_text b = decimal b.from ++ (codes " " ++ (decimal b.to ++ (codes " " ++ (letter b.condition ∷ []))))

-- a network: its node count, and its branches by number
pub record Net : Type 0 where
  pub nodes : ℕ
  pub branches : List Branch

-- both ends of a branch are among the first n nodes
abbrev pub Within : ℕ → Branch → Type 0
Within n b = (b.from < n) × (b.to < n)

-- what every network shows
pub record Legal (net : Net) : Type 0 where
  pub nodes : net.nodes ≤ 32
  pub branches : length net.branches ≤ 64
  pub ends : AllByRecursion (Within net.nodes) net.branches

-- a rated network: a network with a rating for each branch, which is legal by its type
pub record RatedNet : Type 0 where
  pub plain : Net
  pub ratings : List Rating

pub record LegalRated (net : RatedNet) : Type 0 where
  pub plain : Legal net.plain
  pub each : length net.ratings ≡ length net.plain.branches

-- no node and no branch
abbrev pub empty_net : Net
empty_net = record { nodes = 0; branches = [] }

-- A list: the branches of a table.

-- a row that stands where a table holds no branch
abbrev pub blank_row : TableRow
blank_row = record { from = 0; to = 0; mantissa = 0; exponent = 9; condition = Able }

abbrev pub branch_of : TableRow → Branch
branch_of row = record { from = row.from; to = row.to; condition = row.condition }

abbrev pub rating_of : TableRow → Rating
rating_of row = rating_from row.mantissa row.exponent

abbrev pub list_net : ℕ → List TableRow → Net
list_net n rows = record { nodes = n; branches = map branch_of rows }

abbrev pub list_rated : ℕ → List TableRow → RatedNet
list_rated n rows = record { plain = list_net n rows; ratings = map rating_of rows }

-- A ring: branch k joins k and k + 1, and the last joins n - 1 and 0.

abbrev pub ring_branch : ℕ → ℕ → Branch
ring_branch n k = record { from = k; to = cond (k + 1 == n) 0 (k + 1); condition = Able }

abbrev pub ring_net : ℕ → Net
ring_net n = record { nodes = n; branches = map (ring_branch n) (range_with_len 0 n) }

abbrev pub ring_rated : ℕ → Rating → RatedNet
ring_rated n r = record { plain = ring_net n; ratings = replicate n r }
