-- A list of calls on one study, in order: where the study then stands, what was answered, and what stands in the buffer of the lines.
use Rattle.std.specs.Prelude.{◌≡◌, ℕ, ◌+◌, Bool, true, false, List, [], ◌∷◌, map, Some, Ok, Err, fold, Result}
use Rattle.refusals.specs.declared.study_fault.StudyFault.{StudyFault}
use Rattle.network.specs.declared.rating.Rating.{Rating}
use Rattle.network.specs.Meaning.{Net}
use Rattle.network.specs.Questions.{Answer as Questioned}
use Rattle.scale.specs.Arithmetic.{Arithmetic}
use Rattle.engine.specs.declared.call.Call.{Call}
use Rattle.engine.specs.declared.call.Call.TheVariants as ask
use Rattle.engine.specs.declared.call.WhichScale.TheVariants as scale
use Rattle.engine.specs.declared.call.Answer.{Answer}
use Rattle.engine.specs.declared.call.Answer.TheVariants as said
use Rattle.engine.specs.declared.call.Asked.{Asked}
use Rattle.engine.specs.declared.progress.Progress.{Progress}
use Rattle.engine.specs.Studies.{State, no_state, set_up, set_up_answer, aim_answer, advance_answer, show_answer, line_answer, line_written, bounds_answer, called}

-- the study after a set-up and calls, whatever it held before
abbrev pub after_set_up : Net → ℕ → State → List Call → State
after_set_up net head held calls = fold (called net) (set_up net head held) calls

-- the same for a study that held nothing
abbrev pub after : Net → ℕ → List Call → State
after net head calls = after_set_up net head no_state calls

-- the calls since an accepted set-up with this head lead a study here
pub record StandsAfter (net : Net) (head : ℕ) (calls : List Call) (s : State) : Type 0 where
  pub accepted : set_up_answer net head ≡ Ok tt
  pub led_here : s ≡ after net head calls

-- What is answered

module _ {A B : Type 0} (net : Net) (ratings : List Rating) (first : Arithmetic A) (second : Arithmetic B) (places : ℕ) where
  -- what a call answers, or its refusal; the buffer has so many places
  abbrev pub answer : State → Call → Answer A B
  answer s (ask.Aim door) = said.Aim (aim_answer net door s)
  answer s (ask.Advance budget) = said.Advance (advance_answer net budget s)
  answer s (ask.Show k) = said.Show (show_answer net k s)
  answer s (ask.Line k) = said.Line (line_answer net k places s)
  answer s (ask.Bounds scale.First) = said.FirstBounds (bounds_answer net ratings first s)
  answer s (ask.Bounds scale.Second) = said.SecondBounds (bounds_answer net ratings second s)

  -- each call with its answer, from where the study stands
  abbrev pub answered : State → List Call → List (Asked A B)
  answered s [] = []
  answered s (call ∷ calls) = record { call = call; answer = Some (answer s call) } ∷ answered (called net s call) calls

abbrev pub calls_of : {A B : Type 0} → List (Asked A B) → List Call
calls_of asked = map (λ a. a.call) asked

-- What stands in the buffer

module _ (net : Net) where
  abbrev pub buffer_after_call : State → List ℕ → Call → List ℕ
  buffer_after_call s buffer (ask.Aim door) = buffer
  buffer_after_call s buffer (ask.Advance budget) = buffer
  buffer_after_call s buffer (ask.Show k) = buffer
  buffer_after_call s buffer (ask.Line k) = line_written net k buffer s
  buffer_after_call s buffer (ask.Bounds which) = buffer

  abbrev pub buffer_after : State → List ℕ → List Call → List ℕ
  buffer_after s buffer [] = buffer
  buffer_after s buffer (call ∷ calls) = buffer_after (called net s call) (buffer_after_call s buffer call) calls

-- Aims and tries

abbrev pub is_accepted : Questioned StudyFault → Bool
is_accepted (Ok u) = true
is_accepted (Err fault) = false

-- the tries since the last accepted aim, after n of them before the call: none after an accepted aim, and more by what an advance answers
abbrev pub tries_after_aim : ℕ → Questioned StudyFault → ℕ
tries_after_aim n (Ok u) = 0
tries_after_aim n (Err fault) = n

abbrev pub tries_after_advance : ℕ → Result Progress StudyFault → ℕ
tries_after_advance n (Ok made) = n + made.tries
tries_after_advance n (Err fault) = n

module _ (net : Net) where
  abbrev pub accepts_aim : State → Call → Bool
  accepts_aim s (ask.Aim door) = is_accepted (aim_answer net door s)
  accepts_aim s (ask.Advance budget) = false
  accepts_aim s (ask.Show k) = false
  accepts_aim s (ask.Line k) = false
  accepts_aim s (ask.Bounds which) = false

  -- none of the calls is an aim that is accepted
  abbrev pub NoAimAccepted : State → List Call → Type 0
  NoAimAccepted s [] = Unit {0}
  NoAimAccepted s (call ∷ calls) = (accepts_aim s call ≡ false) × NoAimAccepted (called net s call) calls

  abbrev pub tries_after_call : State → ℕ → Call → ℕ
  tries_after_call s n (ask.Aim door) = tries_after_aim n (aim_answer net door s)
  tries_after_call s n (ask.Advance budget) = tries_after_advance n (advance_answer net budget s)
  tries_after_call s n (ask.Show k) = n
  tries_after_call s n (ask.Line k) = n
  tries_after_call s n (ask.Bounds which) = n

  -- what the advances accepted since the last accepted aim say that they tried, added up
  abbrev pub tries_answered : State → ℕ → List Call → ℕ
  tries_answered s n [] = n
  tries_answered s n (call ∷ calls) = tries_answered (called net s call) (tries_after_call s n call) calls
