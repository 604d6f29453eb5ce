-- Inner bookkeeping, which only the contracts of inner functions cite: walks by the branches that they use, a plan for the next try, and what it asks of the table.
use Rattle.std.specs.Prelude.{◌≡◌, ℕ, ◌-◌, ◌^◌, ◌<◌, Bool, false, cond, not, ◌&&◌, ◌||◌, List, [], ◌∷◌, ◌++◌, Some, None, Ok, Err, Option, Result, length, bit_or, nat_lt}
use Rattle.network.specs.declared.branch.Branch.{Branch}
use Rattle.network.specs.declared.branch.Condition.{Condition}
use Rattle.network.specs.Meaning.{Net}
use Rattle.sets.specs.Masks.{has}
use Rattle.search.specs.declared.row.Row.{Row}
use Rattle.search.specs.declared.status.Status.{Status}
use Rattle.search.specs.declared.status.Status.TheVariants.{Finished, Full, More}
use Rattle.search.specs.declared.reach.Over.{Over}
use Rattle.search.specs.declared.reach.Over.TheVariants.{Present, Sure}
use Rattle.search.specs.declared.plan.Try.{Try}
use Rattle.search.specs.declared.plan.Halt.{Halt}
use Rattle.search.specs.declared.plan.Halt.TheVariants as halts
use Rattle.search.specs.Cuts.{branch, is_able, is_present, is_working}
use Rattle.search.specs.Search.{single, share, touches, closure, row_at, open_row, lowest_candidate, current, room, status}
use Rattle.search.specs.Tables.{barred_at}

-- the set of all nodes
abbrev pub all_nodes : Net → ℕ
all_nodes net = 2 ^ net.nodes - 1

-- whether a branch of this condition may be used
abbrev pub carries : Over → Condition → Bool
carries Present c = is_present c
carries Sure c = is_working c

-- the branches that may be used
abbrev pub kept : Over → Net → ℕ → Bool
kept over net k = carries over (branch net k).condition

-- whether such a branch joins v to a member of S, v being none of those to avoid
abbrev pub avoiding : Over → Net → ℕ → ℕ → ℕ → Bool
avoiding over net avoid S v = not (has avoid v) && touches net (kept over net) S v

-- whether a branch is able to fail and has exactly one end in K
abbrev pub parts : ℕ → Branch → Bool
parts K b = is_able b.condition && ((has K b.from && not (has K b.to)) || (has K b.to && not (has K b.from)))

-- none of the first rows has a candidate
abbrev pub Shut : Net → List Row → ℕ → Type 0
Shut net rows first = (i : ℕ) → i < first → open_row net (row_at rows i) ≡ false

-- the current row with its lowest candidate, if there is one
abbrev pub first_open : Net → List Row → Option (ℕ × ℕ)
first_open net rows = cond (nat_lt (current net rows) (length rows)) (Some (current net rows, lowest_candidate net (row_at rows (current net rows)))) None

-- the row of a closure, where that holds none of the barred nodes
abbrev pub clear_row : ℕ → ℕ → Option Row
clear_row K barred = cond (share K barred) None (Some (record { inside = K; barred = barred }))

-- the row that a try of node v writes
abbrev pub row_by : Net → ℕ → Row → ℕ → Option Row
row_by net door r v = clear_row (closure net door (bit_or r.inside (single v))) r.barred

-- the lowest candidate of the current row, and the row that it writes
abbrev pub chosen : Net → ℕ → List Row → Try
chosen net door rows =
    let r = row_at rows (current net rows) in
    record { row = current net rows; node = lowest_candidate net r; written = row_by net door r (lowest_candidate net r) }

abbrev pub next_by : Try → Status → Result Try Halt
next_by t Finished = Err halts.Finished
next_by t Full = Err halts.Full
next_by t More = Ok t

-- the next try, or why there is none
abbrev pub planned : Net → ℕ → List Row → Result Try Halt
planned net door rows = next_by (chosen net door rows) (status net door rows)

abbrev pub status_at : Halt → Status
status_at halts.Finished = Finished
status_at halts.Full = Full

abbrev pub listed : Option Row → List Row
listed None = []
listed (Some r) = r ∷ []

-- the rows after a try
abbrev pub applied : Try → List Row → List Row
applied t rows = barred_at t.row t.node rows ++ listed t.written

-- the row is there, and a row to be written finds room
abbrev pub Fits : Option Row → ℕ → Type 0
Fits None n = Unit {0}
Fits (Some r) n = n < room

abbrev pub Room : Try → ℕ → Type 0
Room t n = (t.row < n) × Fits t.written n
