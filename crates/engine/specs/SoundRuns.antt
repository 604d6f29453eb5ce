-- The law over runs: what holds of a study at every moment of any list of calls after its set-up.
use Rattle.std.specs.Prelude.{◌≡◌, ℕ, ◌+◌, ◌-◌, ◌*◌, ◌^◌, ◌<◌, ◌≤◌, Bool, not, ◌&&◌, List, [], ◌∷◌, ◌++◌, length, Some, Ok, Err, Decides, slice_index}
use Rattle.std.specs.List.{ContainsAt as Has, AllByRecursion}
use Rattle.refusals.specs.declared.study_fault.StudyFault.TheVariants.{NoRow}
use Rattle.network.specs.Meaning.{Net, RatedNet, LegalRated}
use Rattle.search.specs.declared.status.Status.{Status}
use Rattle.search.specs.declared.status.Status.TheVariants.{Finished, Full, More}
use Rattle.search.specs.Cuts.{branches_of, without, Cut, MinimalCut}
use Rattle.search.specs.Search.{Search, linked, room, status, next}
use Rattle.cut_line.specs.Cuts.{written, cut_line}
use Rattle.scale.specs.Fractions.{Fraction, ◌≤ᶠ◌}
use Rattle.scale.specs.Arithmetic.{Arithmetic, Rounded}
use Rattle.chance.specs.declared.bounds.Bounds.{Bounds}
use Rattle.chance.specs.CutOff.{able_set, cut_off_chance}
use Rattle.engine.specs.declared.call.Call.{Call}
use Rattle.engine.specs.declared.call.Asked.{Asked}
use Rattle.engine.specs.Stages.{door_of}
use Rattle.engine.specs.Studies.{State, no_state, set_up, set_up_answer, listed, show_answer, line_answer, line_written, standing_answer, low_bound, high_bound, bounds_answer}
use Rattle.engine.specs.Runs.{after_set_up, after, StandsAfter, answered, buffer_after, NoAimAccepted, tries_answered}

-- whether head and door are unjoined once every branch of Z counts as failed
abbrev pub parts : RatedNet → ℕ → ℕ → ℕ → Bool
parts net head door Z = not (linked net.plain (without net.plain Z) head door)

-- the exact chance that the door is cut off: the sum over every set of able branches that parts it from the head
abbrev pub exact_chance : RatedNet → ℕ → ℕ → Fraction
exact_chance net head door = cut_off_chance net (parts net head door)

module _ (net : Net) (head : ℕ) (calls : List Call) where
  -- a moment of the calls, after those of `before`, at which the study has a door
  pub record Moment : Type 0 where
    pub before : List Call
    pub rest : List Call
    pub divided : calls ≡ before ++ rest
    pub door : ℕ
    pub aimed : door_of (after net head before).stage ≡ Some door

  abbrev pub state_at : Moment → State
  state_at m = after net head m.before

  abbrev pub search_at : Moment → Search
  search_at m = (state_at m).search

  -- the branch sets that are listed then, and how the search stands
  abbrev pub listed_at : Moment → List ℕ
  listed_at m = listed net (search_at m)

  abbrev pub status_at : Moment → Status
  status_at m = status net m.door (search_at m).rows

  -- the tries since the last accepted aim, as the advances answered them
  abbrev pub tries_at : Moment → ℕ
  tries_at m = tries_answered net (set_up net head no_state) 0 m.before

  -- one moment and a later one, with no accepted aim in between
  pub record WithinOneAim : Type 0 where
    pub earlier : Moment
    pub later : Moment
    pub between : List Call
    pub follows : later.before ≡ earlier.before ++ between
    pub no_aim : NoAimAccepted net (after net head earlier.before) between

  -- the list is what showing answers, and holds minimal cuts
  pub record ListsMinimalCuts : Type 0 where
    pub showing_answers_the_list : (m : Moment) (k : ℕ) → k < length (listed_at m) → (vector : ℕ) × (show_answer net k (state_at m) ≡ Ok (slice_index (listed_at m) k, vector))
    pub showing_ends_with_the_list : (m : Moment) (k : ℕ) → length (listed_at m) ≤ k → show_answer net k (state_at m) ≡ Err NoRow
    -- a line counts as a showing
    pub a_line_tells_what_showing_answers : (m : Moment) (k cut vector : ℕ) (buffer : List ℕ) → show_answer net k (state_at m) ≡ Ok (cut, vector) → 320 ≤ length buffer
        → (line_answer net k (length buffer) (state_at m) ≡ Ok (length (cut_line cut vector))) × (line_written net k buffer (state_at m) ≡ written 0 (cut_line cut vector) buffer)
    -- tries, rows and status are those that the study tells
    pub the_standing_is_told : (m : Moment) → standing_answer net (state_at m) ≡ Ok (record { tries = tries_at m; rows = length (listed_at m); status = status_at m })
    pub every_listed_set_is_a_minimal_cut : (m : Moment) → AllByRecursion (MinimalCut net head m.door) (listed_at m)
    pub no_set_is_listed_twice : (m : Moment) (i j : ℕ) → i < length (listed_at m) → j < length (listed_at m) → slice_index (listed_at m) i ≡ slice_index (listed_at m) j → i ≡ j
    -- the status
    pub finished_only_when_every_minimal_cut_is_listed : (m : Moment) → status_at m ≡ Finished → (Z : ℕ) → MinimalCut net head m.door Z → Has (listed_at m) Z
    pub full_only_when_512_are_listed : (m : Moment) → status_at m ≡ Full → length (listed_at m) ≡ room
    pub full_only_when_a_minimal_cut_is_not_listed : (m : Moment) → status_at m ≡ Full → (Z : ℕ) × MinimalCut net head m.door Z × (Has (listed_at m) Z → ⊥)
    pub more_only_when_a_try_is_left : (m : Moment) → status_at m ≡ More → (next net m.door (search_at m)).tries ≡ (search_at m).tries + 1
    -- at most two less than the node count for each row
    pub tries_are_few : (m : Moment) → tries_at m ≤ length (listed_at m) * (net.nodes - 2)
    pub the_door_stays_until_an_aim : (w : WithinOneAim) → w.later.door ≡ w.earlier.door

module _ (net : RatedNet) (head : ℕ) {Num : Type 0} (scale : Arithmetic Num) (calls : List Call) where
  -- the bounds at a moment, their values, and the exact chance
  abbrev pub bounds_at : Moment net.plain head calls → Bounds Num
  bounds_at m =
      let search = search_at net.plain head calls m in
      record { low = low_bound net.plain net.ratings scale search; high = high_bound net.plain net.ratings scale m.door search }

  abbrev pub low_at : Moment net.plain head calls → Fraction
  low_at m = scale.value (bounds_at m).low

  abbrev pub high_at : Moment net.plain head calls → Fraction
  high_at m = scale.value (bounds_at m).high

  abbrev pub chance_at : Moment net.plain head calls → Fraction
  chance_at m = exact_chance net head m.door

  -- the bounds are what asking answers, enclose the exact chance, and only come closer
  pub record EnclosesTheChance : Type 0 where
    pub asking_answers_the_bounds : (m : Moment net.plain head calls) → bounds_answer net.plain net.ratings scale (state_at net.plain head calls m) ≡ Ok (bounds_at m)
    pub low_is_at_most_the_chance : (m : Moment net.plain head calls) → low_at m ≤ᶠ chance_at m
    pub high_is_at_least_the_chance : (m : Moment net.plain head calls) → chance_at m ≤ᶠ high_at m
    pub the_chance_counts_just_the_cuts : (m : Moment net.plain head calls) (Z : ℕ) → Z < 2 ^ branches_of net.plain
        → Decides (able_set net Z && parts net head m.door Z) (Cut net.plain head m.door Z)
    pub low_does_not_fall_until_an_aim : (w : WithinOneAim net.plain head calls) → low_at w.earlier ≤ᶠ low_at w.later
    pub high_does_not_rise_until_an_aim : (w : WithinOneAim net.plain head calls) → high_at w.later ≤ᶠ high_at w.earlier

module _ {A B : Type 0} (net : RatedNet) (head : ℕ) (first : Arithmetic A) (second : Arithmetic B) (calls : List Call) where
  -- the law, in both scales of the run
  pub record SoundRun : Type 0 where
    pub cuts : ListsMinimalCuts net.plain head calls
    pub in_first : EnclosesTheChance net head first calls
    pub in_second : EnclosesTheChance net head second calls

  -- a study that was set up and then made the calls: where it stands, what each call answered, and what stands in the buffer afterwards
  pub record CarriedOut (study : State) (asked : List (Asked A B)) (old_buffer new_buffer : List ℕ) : Type 0 where
    pub stands : StandsAfter net.plain head calls study
    pub every_call_has_its_answer : asked ≡ answered net.plain net.ratings first second (length old_buffer) (set_up net.plain head no_state) calls
    pub every_line_is_written : new_buffer ≡ buffer_after net.plain (set_up net.plain head no_state) old_buffer calls
    pub what_a_study_held_before_is_forgotten : (held : State)
        → (study ≡ after_set_up net.plain head held calls)
        × (asked ≡ answered net.plain net.ratings first second (length old_buffer) (set_up net.plain head held) calls)
        × (new_buffer ≡ buffer_after net.plain (set_up net.plain head held) old_buffer calls)
    pub law : SoundRun

-- The same, call by call: from wherever calls since a set-up have led a study, a call leads it on to where these calls and this one lead

-- and there its list is of minimal cuts
pub record LeadsOn (net : Net) (call : Call) (old new : State) : Type 0 where
  pub stands : (head : ℕ) (calls : List Call) → StandsAfter net head calls old → StandsAfter net head (calls ++ (call ∷ [])) new
  pub cuts : (head : ℕ) (calls : List Call) → StandsAfter net head calls old → ListsMinimalCuts net head (calls ++ (call ∷ []))

-- and there the law holds
pub record LeadsOnSoundly {A B : Type 0} (net : RatedNet) (first : Arithmetic A) (second : Arithmetic B) (call : Call) (old new : State) : Type 0 where
  pub stands : (head : ℕ) (calls : List Call) → StandsAfter net.plain head calls old → StandsAfter net.plain head (calls ++ (call ∷ [])) new
  pub law : (head : ℕ) (calls : List Call) → StandsAfter net.plain head calls old → SoundRun net head first second (calls ++ (call ∷ []))

-- wherever calls since a set-up have led a study, its bounds in this scale enclose the chance
abbrev pub BoundsEncloseTheChance : {Num : Type 0} → RatedNet → Arithmetic Num → State → Type 0
BoundsEncloseTheChance net scale s = (head : ℕ) (calls : List Call) → StandsAfter net.plain head calls s → EnclosesTheChance net head scale calls

-- for every legal rated network, every head, every scale that rounds as it should, and every list of calls
abbrev pub EveryRunIsSound : Type 0 → Type 0
EveryRunIsSound Num =
    (net : RatedNet) → LegalRated net → (head : ℕ) → set_up_answer net.plain head ≡ Ok tt
    → (scale : Arithmetic Num) → Rounded scale → (calls : List Call) → ListsMinimalCuts net.plain head calls × EnclosesTheChance net head scale calls
