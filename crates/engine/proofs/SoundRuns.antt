-- The law over runs.
use Rattle.std.proofs.Common.{◌≡◌, ℕ, ◌+◌, ◌-◌, ◌*◌, ◌<◌, ◌≤◌, Bool, true, false, not, eqb, ltb, leb, List, [], ◌∷◌, length, get_or, Some, None, Ok, Err, fold, Option, sym, refl, ap, ◌∙◌, ap₂, subst, arith}
use Rattle.std.specs.List.{ContainsAt as Has, AllByRecursion}
use Rattle.std.proofs.ByRecursion.{All-from_get_or, has_get_or}
use Rattle.std.proofs.lemmas.List.{length-map, get_or-map}
use Rattle.std.proofs.lemmas.List.Sums.{fold-append}
use Rattle.std.proofs.lemmas.Option.{slice_get-get_or, slice_get_past}
use Rattle.std.proofs.lemmas.Bool.{ltb-true, le-leb, cond-true, eqb-false, not-true}
use Rattle.refusals.specs.declared.study_fault.StudyFault.{StudyFault}
use Rattle.refusals.specs.declared.study_fault.StudyFault.TheVariants.{Head, NoRow}
use Rattle.network.specs.Meaning.{Net, RatedNet, Legal, LegalRated}
use Rattle.network.specs.Questions.{Answer as Asked, asked, and_then}
use Rattle.sets.proofs.Members.{clash}
use Rattle.search.specs.declared.row.Row.{Row}
use Rattle.search.specs.declared.status.Status.TheVariants.{Finished, Full, More}
use Rattle.search.specs.Cuts.{present, sure, MinimalCut}
use Rattle.search.specs.Search.{Search, room, linked, status, next, run, branch_set, node_vector, row_at}
use Rattle.search.specs.Statement.{Aim, Sound}
use Rattle.search.proofs.Sound.{Inv, start, always, sound}
use Rattle.search.proofs.Full.{run-room, full-has-room, full-misses}
use Rattle.search.proofs.Portions.{linked-joined, joined-linked}
use Rattle.cut_line.specs.Cuts.{written, cut_line}
use Rattle.scale.specs.Fractions.{◌≤ᶠ◌}
use Rattle.scale.specs.Arithmetic.{Arithmetic, Rounded}
use Rattle.chance.specs.Bounds.{low, high}
use Rattle.chance.specs.CutOff.{AbleSet, Within}
use Rattle.chance.specs.Bracket.{AreCuts, Complete}
use Rattle.chance.proofs.Enclosed.{brackets}
use Rattle.chance.proofs.Narrow.{narrowing}
use Rattle.engine.specs.declared.call.Call.{Call}
use Rattle.engine.specs.declared.call.Call.TheVariants as ask
use Rattle.engine.specs.Questions.{door_asked, budget_asked}
use Rattle.engine.specs.Stages.{head_of, door_of}
use Rattle.engine.specs.Studies.{State, no_state, set_up, set_up_by, set_up_answer, aimed_by, aim_from, advanced_when, advance_from, called, shown, show_of, show_answer, line_of, line_in, line_answer, line_written, standing_when, standing_answer, bounds_when, listed, finished}
use Rattle.engine.specs.Runs.{after}
use Rattle.engine.specs.SoundRuns.{parts, Moment, WithinOneAim, state_at, search_at, listed_at, status_at, tries_at, low_at, high_at, chance_at, ListsMinimalCuts, EnclosesTheChance, EveryRunIsSound}
use Rattle.engine.proofs.CutTests.{cut-from, cut-able, cut_parts, grows, tells-cuts}
use Rattle.engine.proofs.Later.{finished-status, Follows, follows, counted}

-- an accepted set-up says that the head is a node
accepted-head : (t : Bool) → asked t Head ≡ Ok tt → t ≡ true
accepted-head true e = refl
accepted-head false e = cc

head_below : (net : Net) (head : ℕ) → set_up_answer net head ≡ Ok tt → head < net.nodes
head_below net head e = ltb-true head net.nodes (accepted-head (ltb head net.nodes) e)

next-tries : (net : Net) (door : ℕ) (s : Search) → status net door s.rows ≡ More → (next net door s).tries ≡ s.tries + 1
unfolding next
next-tries net door s e = rw (e, next) refl

module _ (net : Net) (legal : Legal net) (head : ℕ) (below : head < net.nodes) where
  -- what is known of a study at any time
  abbrev SureOf : Option ℕ → Search → Type 0
  SureOf None s = Unit {0}
  SureOf (Some door) s = Aim net head door × Inv net head door s × (length s.rows ≤ room)

  abbrev Sure : State → Type 0
  Sure s = (head_of s.stage ≡ Some head) × SureOf (door_of s.stage) s.search

  -- what the questions of an aim show
  abbrev Accepted : ℕ → Asked StudyFault → Type 0
  Accepted door (Ok u) = Aim net head door
  Accepted door (Err f) = Unit {0}

  accepted : (door : ℕ) → Accepted door (door_asked net head door)
  accepted door = asked-both (ltb door net.nodes) _ _ (λ d. asked-both (not (eqb door head)) _ _ (λ n.
      asked-both (linked net (present net) head door) _ _ (λ j. last (not (linked net (sure net) head door)) _ (λ u. record {
        head_below = below;
        door_below = ltb-true door net.nodes d;
        other = λ e. eqb-false door head (not-true (eqb door head) n) (sym e);
        joined = linked-joined net legal (present net) head door j;
        unsure = λ c. clash (not-true (linked net (sure net) head door) u) (joined-linked net legal (sure net) head below door c);
      }))))
    where
      asked-both : (t : Bool) (f : StudyFault) (next : Asked StudyFault) → (t ≡ true → Accepted door next) → Accepted door (and_then (asked t f) next)
      asked-both true f next h = h refl
      asked-both false f next h = tt

      last : (t : Bool) (f : StudyFault) → (t ≡ true → Aim net head door) → Accepted door (asked t f)
      last true f h = h refl
      last false f h = tt

  aim-sure : (door : ℕ) (s : State) → Sure s → Sure (aim_from net (head_of s.stage) door s)
  aim-sure door s v = subst (λ h. Sure (aim_from net h door s)) (sym v.0) (go (door_asked net head door) (accepted door))
    where
      go : (q : Asked StudyFault) → Accepted door q → Sure (aimed_by net head door s q)
      go (Ok u) a = (refl, (a, start legal a, omega arith))
      go (Err f) a = v

  advance-sure : (k : ℕ) (s : State) (d : Option ℕ) → door_of s.stage ≡ d → Sure s → Sure (advance_from net d k s)
  advance-sure k s None e v = v
  advance-sure k s (Some door) e v = go (budget_asked k)
    where
      known : SureOf (Some door) s.search
      known = subst (λ d. SureOf d s.search) e v.1

      go : (q : Asked StudyFault) → Sure (advanced_when net door k s q)
      go (Ok u) = (v.0, subst (λ d. SureOf d (run net door k s.search)) (sym e) (known.0, always legal known.0 k s.search known.1, run-room net door k s.search known.2))
      go (Err f) = v

  sure-call : (s : State) (c : Call) → Sure s → Sure (called net s c)
  sure-call s (ask.Aim door) v = aim-sure door s v
  sure-call s (ask.Advance k) v = advance-sure k s (door_of s.stage) refl v
  sure-call s (ask.Show k) v = v
  sure-call s (ask.Line k) v = v
  sure-call s (ask.Bounds which) v = v

  sure-calls : (calls : List Call) (s : State) → Sure s → Sure (fold (called net) s calls)
  sure-calls [] s v = v
  sure-calls (c ∷ calls) s v = sure-calls calls (called net s c) (sure-call s c v)

  sure-after : set_up_answer net head ≡ Ok tt → (calls : List Call) → Sure (after net head calls)
  sure-after e calls = sure-calls calls (set_up net head no_state) (subst (λ q. Sure (set_up_by head no_state q)) (sym e) (refl, tt))

  known_at : set_up_answer net head ≡ Ok tt → (calls : List Call) (door : ℕ) → door_of (after net head calls).stage ≡ Some door
      → SureOf (Some door) (after net head calls).search
  known_at e calls door h = subst (λ d. SureOf d (after net head calls).search) h (sure-after e calls).1

module _ (net : Net) (legal : Legal net) (head : ℕ) (accepted : set_up_answer net head ≡ Ok tt) (calls : List Call) where
  below : head < net.nodes
  below = head_below net head accepted

  module _ (m : Moment net head calls) where
    abbrev search : Search
    search = search_at net head calls m

    abbrev rows : List Row
    rows = search.rows

    abbrev sets : List ℕ
    sets = listed_at net head calls m

    known : Aim net head m.door × Inv net head m.door search × (length rows ≤ room)
    known = known_at net legal head below accepted m.before m.door m.aimed

    pub all : Sound net head m.door search
    all = sound legal known.0 search known.1

    pub count : length sets ≡ length rows
    count = length-map rows (branch_set net)

    pub at : (i : ℕ) → i < length rows → get_or sets i 0 ≡ branch_set net (row_at rows i)
    at i l = get_or-map (branch_set net) rows i _ 0 l

    shows : (k : ℕ) → k < length sets → (vector : ℕ) × (show_answer net k (state_at net head calls m) ≡ Ok (get_or sets k 0, vector))
    shows k l =
        let row = row_at rows k in
        let within : k < length rows = omega (arith, count) in (
          node_vector net row,
          ap (show_of net k rows) m.aimed ∙ ap (shown net) (slice_get-get_or rows k _ within) ∙ ap (λ Z. Ok (Z, node_vector net row)) (sym (at k within)),
        )

    shows-no-more : (k : ℕ) → length sets ≤ k → show_answer net k (state_at net head calls m) ≡ Err NoRow
    shows-no-more k l = ap (show_of net k rows) m.aimed ∙ ap (shown net) (slice_get_past rows k (omega (arith, count)))

    tells : (k cut vector : ℕ) (buffer : List ℕ) → show_answer net k (state_at net head calls m) ≡ Ok (cut, vector) → 320 ≤ length buffer
        → (line_answer net k (length buffer) (state_at net head calls m) ≡ Ok (length (cut_line cut vector)))
        × (line_written net k buffer (state_at net head calls m) ≡ written 0 (cut_line cut vector) buffer)
    tells k cut vector buffer e l =
        let long = le-leb 320 (length buffer) l in (
          ap (line_of (length buffer)) e ∙ cond-true (leb 320 (length buffer)) _ _ long,
          ap (line_in buffer) e ∙ cond-true (leb 320 (length buffer)) _ _ long,
        )

    tries-are : tries_at net head calls m ≡ search.tries
    tries-are = counted net m.before (set_up net head no_state) 0 (ap (λ q. (set_up_by head no_state q).search.tries) (sym accepted))

    stands-so : standing_answer net (state_at net head calls m) ≡ Ok (record { tries = tries_at net head calls m; rows = length sets; status = status_at net head calls m })
    stands-so = ap (λ d. standing_when net d search) m.aimed
        ∙ ap₂ (λ (t n : ℕ). Ok (record { tries = t; rows = n; status = status_at net head calls m })) (sym tries-are) (sym count)

    minimal : AllByRecursion (MinimalCut net head m.door) sets
    minimal = All-from_get_or (MinimalCut net head m.door) sets 0 (λ i l.
        let within : i < length rows = omega (arith, count) in subst (MinimalCut net head m.door) (sym (at i within)) (all.minimal i within))

    distinct : (i j : ℕ) → i < length sets → j < length sets → get_or sets i 0 ≡ get_or sets j 0 → i ≡ j
    distinct i j a b e =
        let i_in : i < length rows = omega (arith, count) in
        let j_in : j < length rows = omega (arith, count) in
        all.distinct i j i_in j_in (sym (at i i_in) ∙ e ∙ at j j_in)

    complete : status_at net head calls m ≡ Finished → (Z : ℕ) → MinimalCut net head m.door Z → Has sets Z
    complete f Z c =
        let (i, l, e) = all.complete f Z c in
        let placed : i < length sets = omega (arith, count) in
        subst (Has sets) (at i l ∙ e) (has_get_or sets i 0 placed)

    filled : status_at net head calls m ≡ Full → length sets ≡ room
    filled f = let most = known.2 in omega (arith, count, full-has-room net m.door rows f)

    misses : status_at net head calls m ≡ Full → (Z : ℕ) × MinimalCut net head m.door Z × (Has sets Z → ⊥)
    misses f =
        let (Z, c, none) = full-misses legal known.0 search known.1 f in (
          Z,
          c,
          λ h. let within : h.0 < length rows = omega (arith, count, h.1) in none h.0 within (sym (at h.0 within) ∙ h.2 0),
        )

    goes-on : status_at net head calls m ≡ More → (next net m.door search).tries ≡ search.tries + 1
    goes-on e = next-tries net m.door search e

    few : tries_at net head calls m ≤ length sets * (net.nodes - 2)
    few = subst (λ t. t ≤ length sets * (net.nodes - 2)) (sym tries-are) (subst (λ n. search.tries ≤ n * (net.nodes - 2)) (sym count) all.few_tries)

  module _ (w : WithinOneAim net head calls) where
    abbrev first : State
    first = after net head w.earlier.before

    abbrev last : State
    last = after net head w.later.before

    leads : fold (called net) first w.between ≡ last
    leads = sym (fold-append (called net) (set_up net head no_state) w.earlier.before w.between) ∙ ap (after net head) (sym w.follows)

    pub on : Follows net w.earlier.door first last
    on = subst (Follows net w.earlier.door first) leads (follows net w.earlier.door w.between first w.earlier.aimed w.no_aim)

    pub same-door : w.later.door ≡ w.earlier.door
    same-door = cc (w.later.aimed, on.0)

  pub lists-minimal-cuts : ListsMinimalCuts net head calls
  lists-minimal-cuts = record {
    showing_answers_the_list = shows;
    showing_ends_with_the_list = shows-no-more;
    a_line_tells_what_showing_answers = tells;
    the_standing_is_told = stands-so;
    every_listed_set_is_a_minimal_cut = minimal;
    no_set_is_listed_twice = distinct;
    finished_only_when_every_minimal_cut_is_listed = complete;
    full_only_when_512_are_listed = filled;
    full_only_when_a_minimal_cut_is_not_listed = misses;
    more_only_when_a_try_is_left = goes-on;
    tries_are_few = few;
    the_door_stays_until_an_aim = same-door;
  }

module _ {Num : Type 0} (net : RatedNet) (legal : LegalRated net) (head : ℕ) (accepted : set_up_answer net.plain head ≡ Ok tt) (scale : Arithmetic Num) (rounded : Rounded scale) (calls : List Call) where
  module _ (m : Moment net.plain head calls) where
    abbrev listing : List ℕ
    listing = listed_at net.plain head calls m

    abbrev apart : ℕ → Bool
    apart = parts net head m.door

    abbrev is-finished : Bool
    is-finished = finished net.plain m.door (search_at net.plain head calls m)

    facts : Sound net.plain head m.door (search_at net.plain head calls m)
    facts = all net.plain legal.plain head accepted calls m

    in_rows : (i : ℕ) → i < length listing → i < length (search_at net.plain head calls m).rows
    in_rows i l = omega (arith, count net.plain legal.plain head accepted calls m)

    are-cuts : AreCuts net apart listing
    are-cuts = All-from_get_or (λ Z. AbleSet net Z × (apart Z ≡ true)) listing 0 (λ i l.
        let c = (facts.minimal i (in_rows i l)).cut in
        subst (λ Z. AbleSet net Z × (apart Z ≡ true)) (sym (at net.plain legal.plain head accepted calls m i (in_rows i l)))
        (cut-able net legal.plain head m.door (head_below net.plain head accepted) _ c, cut_parts net legal.plain head m.door (head_below net.plain head accepted) _ c))

    covered : is-finished ≡ true → Complete net apart listing
    covered f Z a t =
        let (i, l, w) = facts.covered (finished-status _ f) Z (cut-from net legal.plain head m.door (head_below net.plain head accepted) Z a t) in
        let placed : i < length listing = omega (arith, count net.plain legal.plain head accepted calls m) in
        (i, placed, subst (λ c. Within c Z) (sym (at net.plain legal.plain head accepted calls m i l)) w)

    enclosed : (low_at net head scale calls m ≤ᶠ chance_at net head scale calls m) × (chance_at net head scale calls m ≤ᶠ high_at net head scale calls m)
    enclosed = brackets scale rounded net legal listing is-finished _ _ refl refl apart (grows net legal.plain head m.door (head_below net.plain head accepted)) are-cuts covered

  narrower : (w : WithinOneAim net.plain head calls) → (low_at net head scale calls w.earlier ≤ᶠ low_at net head scale calls w.later) × (high_at net head scale calls w.later ≤ᶠ high_at net head scale calls w.earlier)
  narrower w =
      let door = w.earlier.door in
      let before = after net.plain head w.earlier.before in
      let later = after net.plain head w.later.before in
      let h = (on net.plain legal.plain head accepted calls w).1 in
      let sets = listed net.plain before.search in
      let (a, b) = narrowing Num scale rounded net.ratings sets h.more (finished net.plain door before.search) (finished net.plain door later.search) h.stays in (
        subst (λ l. scale.value (low scale net.ratings sets) ≤ᶠ scale.value (low scale net.ratings l)) (sym h.list) a,
        subst (λ d. scale.value (high scale net.ratings (finished net.plain d later.search) (listed net.plain later.search)) ≤ᶠ high_at net head scale calls w.earlier)
            (sym (same-door net.plain legal.plain head accepted calls w))
            (subst (λ l. scale.value (high scale net.ratings (finished net.plain door later.search) l) ≤ᶠ high_at net head scale calls w.earlier) (sym h.list) b),
      )

  pub encloses-the-chance : EnclosesTheChance net head scale calls
  encloses-the-chance = record {
    asking_answers_the_bounds = λ m. ap (λ d. bounds_when net.plain net.ratings scale d (search_at net.plain head calls m)) m.aimed;
    low_is_at_most_the_chance = λ m. (enclosed m).0;
    high_is_at_least_the_chance = λ m. (enclosed m).1;
    the_chance_counts_just_the_cuts = λ m. tells-cuts net legal.plain head m.door (head_below net.plain head accepted);
    low_does_not_fall_until_an_aim = λ w. (narrower w).0;
    high_does_not_rise_until_an_aim = λ w. (narrower w).1;
  }

pub every-run-is-sound : (Num : Type 0) → EveryRunIsSound Num
every-run-is-sound Num net legal head accepted scale rounded calls =
    (lists-minimal-cuts net.plain legal.plain head accepted calls, encloses-the-chance net legal head accepted scale rounded calls)
