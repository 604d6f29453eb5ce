-- Runs worked by hand on the bridge: nodes 0 to 3, branches 0-1, 0-2, 1-2, 1-3 and 2-3, each failing with chance 0.1; the head is node 0.
use Rattle.std.specs.Prelude.{◌≡◌, ℕ, ◌*◌, List, [], ◌∷◌, map, length, replicate, Some, Ok, Err, Option}
use Rattle.std.proofs.Common.{arith}
use Rattle.refusals.specs.declared.study_fault.StudyFault.TheVariants as no
use Rattle.network.specs.declared.branch.Condition.TheVariants.{Able}
use Rattle.network.specs.declared.rating.Rating.{Rating}
use Rattle.network.specs.Meaning.{RatedNet}
use Rattle.search.specs.declared.status.Status.TheVariants as stands
use Rattle.search.specs.Cases.{bridge}
use Rattle.scale.specs.Arithmetic.{Arithmetic}
use Rattle.cut_line.specs.Cuts.{cut_line}
use Rattle.engine.specs.declared.call.Call.{Call}
use Rattle.engine.specs.declared.call.Call.TheVariants.{Aim, Advance, Show, Line, Bounds}
use Rattle.engine.specs.declared.call.WhichScale.TheVariants.{First, Second}
use Rattle.engine.specs.declared.call.Answer.{Answer}
use Rattle.engine.specs.declared.call.Answer.TheVariants as said
use Rattle.engine.specs.Studies.{State, no_state, set_up, listed}
use Rattle.engine.specs.Stages.{door_of}
use Rattle.engine.specs.Runs.{after_set_up, after, answered, tries_answered}
use Rattle.engine.specs.SoundRuns.{exact_chance}

abbrev pub tenth : Rating
tenth = record { mantissa = 100_000_000; exponent = 9; small = omega arith; least = omega arith; most = omega arith }

abbrev pub rated_bridge : RatedNet
rated_bridge = record { plain = bridge Able; ratings = replicate 5 tenth }

-- what a study shows: its door and its list
pub record Shown : Type 0 where
  pub door : Option ℕ
  pub list : List ℕ

unfoldable pub shown : State → Shown
shown s = record { door = door_of s.stage; list = listed (bridge Able) s.search }

-- the tries that advances answer on the bridge since the last accepted aim
unfoldable pub tries : List Call → ℕ
tries calls = tries_answered (bridge Able) (set_up (bridge Able) 0 no_state) 0 calls

module _ {A B : Type 0} (first : Arithmetic A) (second : Arithmetic B) where
  -- what the calls after a set-up answer, with a buffer of 320 places
  unfoldable pub given : List Call → List (Option (Answer A B))
  given calls = map (λ a. a.answer) (answered rated_bridge.plain rated_bridge.ratings first second 320 (set_up (bridge Able) 0 no_state) calls)

  pub record BridgeRuns : Type 0 where
    -- the exact chance of door 3 is 0.02152
    pub chance : (exact_chance rated_bridge 0 3).top * 100_000 ≡ 2_152 * (exact_chance rated_bridge 0 3).under
    -- before an aim is accepted every other call is refused; the head and a number past the last node are no doors
    pub refused : given (Advance 1 ∷ Aim 0 ∷ Aim 4 ∷ Show 0 ∷ Line 0 ∷ Bounds First ∷ Bounds Second ∷ [])
        ≡ Some (said.Advance (Err no.NoAim)) ∷ Some (said.Aim (Err no.DoorIsHead)) ∷ Some (said.Aim (Err no.Door)) ∷ Some (said.Show (Err no.NoAim)) ∷ Some (said.Line (Err no.NoAim))
        ∷ Some (said.FirstBounds (Err no.NoAim)) ∷ Some (said.SecondBounds (Err no.NoAim)) ∷ []
    -- a budget of 0 and the head as a door are refused, and change nothing
    pub halfway : shown (after (bridge Able) 0 (Aim 3 ∷ Advance 1 ∷ Advance 0 ∷ Aim 0 ∷ Bounds First ∷ Advance 1 ∷ [])) ≡ record { door = Some 3; list = 0b00011 ∷ 0b01110 ∷ 0b10101 ∷ [] }
    -- tries add up over advances
    pub counted : tries (Aim 3 ∷ Advance 1 ∷ Advance 0 ∷ Aim 0 ∷ Bounds Second ∷ Advance 1 ∷ []) ≡ 2
    pub to_the_end : given (Aim 3 ∷ Advance 2 ∷ Advance 10 ∷ Show 3 ∷ Show 4 ∷ Line 3 ∷ [])
        ≡ Some (said.Aim (Ok tt)) ∷ Some (said.Advance (Ok (record { tries = 2; rows = 3; status = stands.More }))) ∷ Some (said.Advance (Ok (record { tries = 1; rows = 4; status = stands.Finished })))
        ∷ Some (said.Show (Ok (0b11000, 0b1000))) ∷ Some (said.Show (Err no.NoRow)) ∷ Some (said.Line (Ok (length (cut_line 0b11000 0b1000)))) ∷ []
    -- an accepted aim starts anew, and so does a set-up, whatever was listed before
    pub aimed_anew : shown (after (bridge Able) 0 (Aim 3 ∷ Advance 10 ∷ Aim 1 ∷ [])) ≡ record { door = Some 1; list = 0b00011 ∷ [] }
    pub set_up_anew : shown (after_set_up (bridge Able) 0 (after (bridge Able) 0 (Aim 3 ∷ Advance 10 ∷ [])) (Aim 1 ∷ [])) ≡ record { door = Some 1; list = 0b00011 ∷ [] }
