-- A study by its state, and what each call answers and leaves.
use Rattle.std.specs.Prelude.{◌≡◌, ℕ, ◌-◌, Bool, true, false, List, [], map, length, Some, None, Ok, Err, Option, Result}
use Rattle.std.specs.List.{slice_get}
use Rattle.refusals.specs.declared.study_fault.StudyFault.{StudyFault}
use Rattle.refusals.specs.declared.study_fault.StudyFault.TheVariants.{Door, NoAim, NoRow}
use Rattle.network.specs.declared.rating.Rating.{Rating}
use Rattle.network.specs.Meaning.{Net}
use Rattle.network.specs.Questions.{Answer, head_asked}
use Rattle.search.specs.declared.row.Row.{Row}
use Rattle.search.specs.declared.status.Status.{Status}
use Rattle.search.specs.declared.status.Status.TheVariants.{Finished, Full, More}
use Rattle.search.specs.Search.{Search, searched, branch_set, node_vector, status, aimed, run}
use Rattle.search.specs.Tables.{rows_of}
use Rattle.scale.specs.Arithmetic.{Arithmetic}
use Rattle.chance.specs.declared.bounds.Bounds.{Bounds}
use Rattle.chance.specs.Bounds.{low, high}
use Rattle.cut_line.specs.Cuts.{cut_length, cut_written}
use Rattle.engine.specs.declared.call.Call.{Call}
use Rattle.engine.specs.declared.call.Call.TheVariants.{Aim, Advance, Show, Line, Bounds as AskBounds}
use Rattle.engine.specs.declared.progress.Progress.{Progress}
use Rattle.engine.specs.declared.stage.Stage.{Stage}
use Rattle.engine.specs.declared.stage.Stage.TheVariants.{Fresh, SetUp, Aimed}
use Rattle.engine.specs.declared.study.Study.{Study}
use Rattle.engine.specs.Questions.{door_asked, budget_asked}
use Rattle.engine.specs.Stages.{head_of, door_of}

-- the head of the set-up with the door of the last accepted aim since then, and its search
pub record State : Type 0 where
  pub stage : Stage
  pub search : Search

abbrev pub state_of : Study → State
state_of s = record { stage = s.stage; search = searched (rows_of s.table) s.tries }

abbrev pub no_state : State
no_state = record { stage = Fresh; search = searched [] 0 }

-- Set-up

abbrev pub set_up_answer : Net → ℕ → Answer StudyFault
set_up_answer net head = head_asked net.nodes head

abbrev pub set_up_by : ℕ → State → Answer StudyFault → State
set_up_by head s (Ok u) = record { stage = SetUp head; search = searched [] 0 }
set_up_by head s (Err f) = s

abbrev pub set_up : Net → ℕ → State → State
set_up net head s = set_up_by head s (set_up_answer net head)

-- after an accepted set-up a study is as any other would be after it, whatever that one held
abbrev pub Forgets : Net → ℕ → Answer StudyFault → State → Type 0
Forgets net head (Ok u) s = (held : State) → s ≡ set_up net head held
Forgets net head (Err f) s = Unit {0}

-- Aim: before a set-up there is no node that could be the door

abbrev pub aim_asked : Net → Option ℕ → ℕ → Answer StudyFault
aim_asked net None door = Err Door
aim_asked net (Some head) door = door_asked net head door

abbrev pub aim_answer : Net → ℕ → State → Answer StudyFault
aim_answer net door s = aim_asked net (head_of s.stage) door

abbrev pub aimed_by : Net → ℕ → ℕ → State → Answer StudyFault → State
aimed_by net head door s (Ok u) = record { stage = Aimed head door; search = aimed net head door }
aimed_by net head door s (Err f) = s

abbrev pub aim_from : Net → Option ℕ → ℕ → State → State
aim_from net None door s = s
aim_from net (Some head) door s = aimed_by net head door s (door_asked net head door)

-- Advance

-- so many tries, with the rows and how the search stands
abbrev pub progress_of : Net → ℕ → ℕ → List Row → Progress
progress_of net door tries rows = record { tries = tries; rows = length rows; status = status net door rows }

-- the tries made, the rows then written, and how the search stands
abbrev pub progress : Net → ℕ → ℕ → Search → Progress
progress net door budget s = progress_of net door ((run net door budget s).tries - s.tries) (run net door budget s).rows

abbrev pub advanced_by : Net → ℕ → ℕ → State → State
advanced_by net door budget s = record { stage = s.stage; search = run net door budget s.search }

abbrev pub progress_when : Net → ℕ → ℕ → Search → Answer StudyFault → Result Progress StudyFault
progress_when net door budget s (Ok u) = Ok (progress net door budget s)
progress_when net door budget s (Err f) = Err f

abbrev pub advance_of : Net → Option ℕ → ℕ → Search → Result Progress StudyFault
advance_of net None budget s = Err NoAim
advance_of net (Some door) budget s = progress_when net door budget s (budget_asked budget)

abbrev pub advance_answer : Net → ℕ → State → Result Progress StudyFault
advance_answer net budget s = advance_of net (door_of s.stage) budget s.search

abbrev pub advanced_when : Net → ℕ → ℕ → State → Answer StudyFault → State
advanced_when net door budget s (Ok u) = advanced_by net door budget s
advanced_when net door budget s (Err f) = s

abbrev pub advance_from : Net → Option ℕ → ℕ → State → State
advance_from net None budget s = s
advance_from net (Some door) budget s = advanced_when net door budget s (budget_asked budget)

-- Show

abbrev pub shown : Net → Option Row → Result (ℕ × ℕ) StudyFault
shown net None = Err NoRow
shown net (Some row) = Ok (branch_set net row, node_vector net row)

abbrev pub show_of : Net → ℕ → List Row → Option ℕ → Result (ℕ × ℕ) StudyFault
show_of net k rows None = Err NoAim
show_of net k rows (Some door) = shown net (slice_get rows k)

abbrev pub show_answer : Net → ℕ → State → Result (ℕ × ℕ) StudyFault
show_answer net k s = show_of net k s.search.rows (door_of s.stage)

-- Bounds

-- the branch sets that showing answers, in listing order
abbrev pub listed : Net → Search → List ℕ
listed net s = map (branch_set net) s.rows

abbrev pub is_finished : Status → Bool
is_finished Finished = true
is_finished Full = false
is_finished More = false

abbrev pub finished : Net → ℕ → Search → Bool
finished net door s = is_finished (status net door s.rows)

module _ {Num : Type 0} (net : Net) (ratings : List Rating) (scale : Arithmetic Num) where
  abbrev pub low_bound : Search → Num
  low_bound s = low scale ratings (listed net s)

  abbrev pub high_bound : ℕ → Search → Num
  high_bound door s = high scale ratings (finished net door s) (listed net s)

  abbrev pub bounds_when : Option ℕ → Search → Result (Bounds Num) StudyFault
  bounds_when None s = Err NoAim
  bounds_when (Some door) s = Ok (record { low = low_bound s; high = high_bound door s })

  abbrev pub bounds_answer : State → Result (Bounds Num) StudyFault
  bounds_answer s = bounds_when (door_of s.stage) s.search

-- Line: the questions of show, and then whether the buffer is long enough

abbrev pub line_of : ℕ → Result (ℕ × ℕ) StudyFault → Result ℕ StudyFault
line_of places (Ok row) = cut_length row.0 row.1 places
line_of places (Err f) = Err f

abbrev pub line_in : List ℕ → Result (ℕ × ℕ) StudyFault → List ℕ
line_in buffer (Ok row) = cut_written row.0 row.1 buffer
line_in buffer (Err f) = buffer

abbrev pub line_answer : Net → ℕ → ℕ → State → Result ℕ StudyFault
line_answer net k places s = line_of places (show_answer net k s)

abbrev pub line_written : Net → ℕ → List ℕ → State → List ℕ
line_written net k buffer s = line_in buffer (show_answer net k s)

-- Standing: the tries since the aim, the rows and the status

abbrev pub standing_when : Net → Option ℕ → Search → Result Progress StudyFault
standing_when net None s = Err NoAim
standing_when net (Some door) s = Ok (progress_of net door s.tries s.rows)

abbrev pub standing_answer : Net → State → Result Progress StudyFault
standing_answer net s = standing_when net (door_of s.stage) s.search

-- Any call after a set-up; a refused one, a showing, a line and a question for bounds change nothing

abbrev pub called : Net → State → Call → State
called net s (Aim door) = aim_from net (head_of s.stage) door s
called net s (Advance budget) = advance_from net (door_of s.stage) budget s
called net s (Show k) = s
called net s (Line k) = s
called net s (AskBounds which) = s
