-- The sheet of a door by the answers to its run.
use Rattle.std.proofs.Common.{◌≡◌, ℕ, ◌+◌, ◌-◌, List, [], ◌∷◌, ◌++◌, length, get_or, Some, Ok, Err, MatchResult, fold, sym, refl, ap, ◌∙◌, ap₂, arith}
use Rattle.std.specs.Result.{result_ok}
use Rattle.refusals.specs.declared.study_fault.StudyFault.{StudyFault}
use Rattle.network.specs.declared.rating.Rating.{Rating}
use Rattle.network.specs.Meaning.{Net, RatedNet}
use Rattle.network.specs.Questions.{Answer}
use Rattle.search.specs.Search.{Search, status, run, aimed}
use Rattle.engine.proofs.Later.{tries-grow}
use Rattle.scale.specs.declared.billionths.Billionth.{Billionth}
use Rattle.scale.specs.declared.nine_figures.Decimal.{Decimal}
use Rattle.scale.specs.Billionths.{billionths}
use Rattle.scale.specs.NineFigures.{nine_figures}
use Rattle.engine.specs.declared.call.Asked.{Asked}
use Rattle.engine.specs.declared.call.Call.{Call}
use Rattle.engine.specs.declared.call.Call.TheVariants.{Aim, Advance, Bounds}
use Rattle.engine.specs.declared.call.WhichScale.TheVariants.{First, Second}
use Rattle.engine.specs.declared.stage.Stage.TheVariants.{Aimed}
use Rattle.engine.specs.Questions.{door_asked}
use Rattle.engine.specs.Stages.{head_of}
use Rattle.engine.specs.Studies.{State, no_state, set_up, set_up_by, set_up_answer, aim_asked, aim_answer, called, bounds_answer}
use Rattle.engine.specs.Runs.{after, answer, answered}
use Rattle.sheet.specs.Sheets.{refused_line, cut_lines, progress_line, low_line, fine_line, study_text, door_calls, door_text}
use Rattle.sheet.specs.Answers.{run_calls, aimed_in, answers_text}

module _ (rated : RatedNet) (head d : ℕ) where
  abbrev net : Net
  net = rated.plain

  abbrev ratings : List Rating
  ratings = rated.ratings

  -- the lines of the rows that a study holds
  abbrev rows : State → List ℕ
  rows s = cut_lines net s (length s.search.rows)

  text-from : (aim : Asked Billionth Decimal) (u : Search) → u.tries ≡ 0
      → answers_text d (aim ∷ answered net ratings billionths nine_figures 0 (record { stage = Aimed head d; search = u }) (Advance 10000 ∷ Advance 10000 ∷ Bounds First ∷ Bounds Second ∷ [])) (rows (fold (called net) (record { stage = Aimed head d; search = u }) (Advance 10000 ∷ Advance 10000 ∷ [])))
      ≡ study_text rated d (fold (called net) (record { stage = Aimed head d; search = u }) (Advance 10000 ∷ Advance 10000 ∷ []))
  text-from aim u none =
      let v = run net d 10000 u in
      let w = run net d 10000 v in
      let s : State = record { stage = Aimed head d; search = w } in
      let sum : (v.tries - u.tries) + (w.tries - v.tries) ≡ w.tries = omega (arith, tries-grow net d 10000 u, tries-grow net d 10000 v) in
      ap (λ (t : ℕ). progress_line d t (length w.rows) (status net d w.rows) ++ (rows s ++ (low_line (result_ok (bounds_answer net ratings billionths s)) ++ fine_line (result_ok (bounds_answer net ratings nine_figures s))))) sum

  aimed-there : set_up_answer net head ≡ Ok tt → door_asked net head d ≡ Ok tt → called net (set_up net head no_state) (Aim d) ≡ record { stage = Aimed head d; search = aimed net head d }
  aimed-there e f = rw (e, f) refl

  study-text : set_up_answer net head ≡ Ok tt → door_asked net head d ≡ Ok tt
      → answers_text d (answered net ratings billionths nine_figures 0 (set_up net head no_state) (run_calls d)) (rows (after net head (run_calls d))) ≡ study_text rated d (after net head (door_calls d))
  study-text e f =
      let there = aimed-there e f in
      let aim : Asked Billionth Decimal = record { call = Aim d; answer = Some (answer net ratings billionths nine_figures 0 (set_up net head no_state) (Aim d)) } in
      ap (λ t. answers_text d (aim ∷ answered net ratings billionths nine_figures 0 t (Advance 10000 ∷ Advance 10000 ∷ Bounds First ∷ Bounds Second ∷ [])) (rows (fold (called net) t (Advance 10000 ∷ Advance 10000 ∷ [])))) there
      ∙ text-from aim (aimed net head d) refl
      ∙ ap (λ t. study_text rated d (fold (called net) t (Advance 10000 ∷ Advance 10000 ∷ []))) (sym there)

  -- what the aim of the run is asked
  first-aim : set_up_answer net head ≡ Ok tt → aim_answer net d (set_up net head no_state) ≡ door_asked net head d
  first-aim e = ap (λ a. aim_asked net (head_of (set_up_by head no_state a).stage) d) e

  -- the sheet by what the head and the door are asked
  abbrev told : Answer StudyFault → Answer StudyFault → List ℕ
  told a b = elim a [ Err fault ↦ refused_line d fault | Ok u ↦ elim b [ Err fault ↦ refused_line d fault | Ok v ↦ study_text rated d (after net head (door_calls d)) ] ]

  aim-told : (places : List (Asked Billionth Decimal)) (z : Asked Billionth Decimal) → set_up_answer net head ≡ Ok tt
      → places ≡ answered net ratings billionths nine_figures 0 (set_up net head no_state) (run_calls d) → aimed_in (get_or places 0 z).answer ≡ door_asked net head d
  aim-told places z e p = ap (λ (l : List (Asked Billionth Decimal)). aimed_in (get_or l 0 z).answer) p ∙ first-aim e

  module _ (calls : List Call) (places : List (Asked Billionth Decimal)) (z : Asked Billionth Decimal) (s : State) (r : calls ≡ run_calls d) (e : set_up_answer net head ≡ Ok tt)
      (led : s ≡ after net head calls) (q : places ≡ answered net ratings billionths nine_figures 0 (set_up net head no_state) calls) where
    p : places ≡ answered net ratings billionths nine_figures 0 (set_up net head no_state) (run_calls d)
    p = q ∙ ap (answered net ratings billionths nine_figures 0 (set_up net head no_state)) r

    pub studied-door : (aim : Answer StudyFault) → aim ≡ aimed_in (get_or places 0 z).answer
        → MatchResult aim (λ _. answers_text d places (rows s) ≡ door_text rated head d) (λ fault. refused_line d fault ≡ door_text rated head d)
    studied-door (Ok u) h =
        let accepted : Ok tt ≡ door_asked net head d = h ∙ aim-told places z e p in
        ap₂ (λ (l : List (Asked Billionth Decimal)) (t : State). answers_text d l (rows t)) p (led ∙ ap (after net head) r) ∙ study-text e (sym accepted) ∙ ap₂ told (sym e) accepted
    studied-door (Err fault) h = ap₂ told (sym e) (h ∙ aim-told places z e p)
