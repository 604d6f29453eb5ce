-- The text of what the calls of a door answered.
use Rattle.std.specs.Prelude.{ℕ, ◌+◌, List, [], ◌∷◌, ◌++◌, Some, None, Ok, Option}
use Rattle.std.specs.Result.{result_ok}
use Rattle.refusals.specs.declared.study_fault.StudyFault.{StudyFault}
use Rattle.network.specs.Questions.{Answer as Questioned}
use Rattle.scale.specs.declared.billionths.Billionth.{Billionth}
use Rattle.scale.specs.declared.nine_figures.Decimal.{Decimal}
use Rattle.chance.specs.declared.bounds.Bounds.{Bounds}
use Rattle.engine.specs.declared.progress.Progress.{Progress}
use Rattle.engine.specs.declared.call.Answer.{Answer}
use Rattle.engine.specs.declared.call.Answer.TheVariants as said
use Rattle.engine.specs.declared.call.Asked.{Asked}
use Rattle.engine.specs.declared.call.Call.{Call}
use Rattle.engine.specs.declared.call.Call.TheVariants.{Bounds as AskBounds}
use Rattle.engine.specs.declared.call.WhichScale.TheVariants.{First, Second}
use Rattle.sheet.specs.Sheets.{progress_line, low_line, fine_line, door_calls}

-- the run of a door: after the calls that end its search, a question for the bounds in each scale
abbrev pub run_calls : ℕ → List Call
run_calls d = door_calls d ++ (AskBounds First ∷ AskBounds Second ∷ [])

-- what a place holds, where it holds an answer of this kind

abbrev pub Reply : Type 0
Reply = Option (Answer Billionth Decimal)

-- a place without the answer of an aim tells no refusal
abbrev pub aimed_in : Reply → Questioned StudyFault
aimed_in None = Ok tt
aimed_in (Some (said.Aim r)) = r
aimed_in (Some (said.Advance r)) = Ok tt
aimed_in (Some (said.Show r)) = Ok tt
aimed_in (Some (said.Line r)) = Ok tt
aimed_in (Some (said.FirstBounds r)) = Ok tt
aimed_in (Some (said.SecondBounds r)) = Ok tt

abbrev pub made_in : Reply → Option Progress
made_in None = None
made_in (Some (said.Aim r)) = None
made_in (Some (said.Advance r)) = result_ok r
made_in (Some (said.Show r)) = None
made_in (Some (said.Line r)) = None
made_in (Some (said.FirstBounds r)) = None
made_in (Some (said.SecondBounds r)) = None

abbrev pub low_in : Reply → Option (Bounds Billionth)
low_in None = None
low_in (Some (said.Aim r)) = None
low_in (Some (said.Advance r)) = None
low_in (Some (said.Show r)) = None
low_in (Some (said.Line r)) = None
low_in (Some (said.FirstBounds r)) = result_ok r
low_in (Some (said.SecondBounds r)) = None

abbrev pub fine_in : Reply → Option (Bounds Decimal)
fine_in None = None
fine_in (Some (said.Aim r)) = None
fine_in (Some (said.Advance r)) = None
fine_in (Some (said.Show r)) = None
fine_in (Some (said.Line r)) = None
fine_in (Some (said.FirstBounds r)) = None
fine_in (Some (said.SecondBounds r)) = result_ok r

-- the lines

-- how the search stands after two advances: the tries of both, and what the second says
abbrev pub advances_line : ℕ → Option Progress → Option Progress → List ℕ
advances_line d None second = []
advances_line d (Some first) None = []
advances_line d (Some first) (Some second) = progress_line d (first.tries + second.tries) second.rows second.status

-- the sheet of a door by the answers to its run, an aim, two advances and bounds in both scales, with the lines of its rows
abbrev pub answers_text : ℕ → List (Asked Billionth Decimal) → List ℕ → List ℕ
answers_text d (aim ∷ first ∷ second ∷ low ∷ fine ∷ []) rows =
    advances_line d (made_in first.answer) (made_in second.answer) ++ (rows ++ (low_line (low_in low.answer) ++ fine_line (fine_in fine.answer)))
answers_text d _ rows = []
