-- What is asked before a network is made or studied: the first no decides.
use Rattle.std.specs.Prelude.{ℕ, ◌+◌, Bool, cond, ◌&&◌, List, [], ◌∷◌, length, Ok, Err, Result, nat_le, nat_lt}
use Rattle.refusals.specs.declared.network_fault.NetworkFault.{NetworkFault}
use Rattle.refusals.specs.declared.network_fault.NetworkFault.TheVariants.{NodeCount, BranchCount, BadEnd, BadRating}
use Rattle.refusals.specs.declared.study_fault.StudyFault.{StudyFault}
use Rattle.refusals.specs.declared.study_fault.StudyFault.TheVariants.{Head}
use Rattle.network.specs.declared.branch.TableRow.{TableRow}
use Rattle.network.specs.Ratings.{rating_fits}

-- the answer to one question: yes, or no with its fault
abbrev pub Answer : Type 0 → Type 0
Answer Fault = Result (Unit {0}) Fault

abbrev pub asked : {Fault : Type 0} → Bool → Fault → Answer Fault
asked holds fault = cond holds (Ok tt) (Err fault)

-- the next question, once this one is answered yes
abbrev pub and_then : {Fault : Type 0} → Answer Fault → Answer Fault → Answer Fault
and_then (Ok u) next = next
and_then (Err fault) next = Err fault

-- are there 2 to 32 nodes?
abbrev pub nodes_asked : ℕ → Answer NetworkFault
nodes_asked n = asked (nat_le 2 n && nat_le n 32) NodeCount

-- are there 1 to 64 branches?
abbrev pub count_asked : ℕ → Answer NetworkFault
count_asked b = asked (nat_le 1 b && nat_le b 64) BranchCount

-- of branch k: are both ends below n, and is the rating legal?
abbrev pub row_asked : ℕ → ℕ → TableRow → Answer NetworkFault
row_asked n k row =
    and_then (asked (nat_lt row.from n && nat_lt row.to n) (BadEnd k)) (asked (rating_fits row.mantissa row.exponent) (BadRating k))

-- branch by branch, from number k on
abbrev pub rows_asked : ℕ → ℕ → List TableRow → Answer NetworkFault
rows_asked n k [] = Ok tt
rows_asked n k (row ∷ rows) = and_then (row_asked n k row) (rows_asked n (k + 1) rows)

abbrev pub list_asked : ℕ → List TableRow → Answer NetworkFault
list_asked n rows = and_then (nodes_asked n) (and_then (count_asked (length rows)) (rows_asked n 0 rows))

abbrev pub ring_asked : ℕ → ℕ → ℕ → Answer NetworkFault
ring_asked n m e = and_then (nodes_asked n) (asked (rating_fits m e) (BadRating 0))

-- is the head a node?
abbrev pub head_asked : ℕ → ℕ → Answer StudyFault
head_asked n head = asked (nat_lt head n) Head
