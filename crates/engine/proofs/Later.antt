-- From one point of a run to the next: what is added, what stays, and what is counted.
use Rattle.std.proofs.Common.{◌≡◌, ℕ, zero, suc, ◌+◌, ◌≤◌, true, false, List, [], ◌∷◌, ◌++◌, map, set, Some, None, Ok, Err, fold, Option, sym, refl, ap, ◌∙◌, subst, inl, inr, append_assoc, append-nil, arith}
use mathlib.Core.List.{map-append}
use Rattle.std.proofs.Math.Seq.{map-set_same}
use Rattle.std.proofs.lemmas.Bool.{cases_Bool}
use Rattle.sets.proofs.Members.{clash}
use Rattle.refusals.specs.declared.study_fault.StudyFault.{StudyFault}
use Rattle.network.specs.Meaning.{Net}
use Rattle.network.specs.Questions.{Answer as Asked}
use Rattle.search.specs.declared.row.Row.{Row}
use Rattle.search.specs.declared.status.Status.{Status}
use Rattle.search.specs.declared.status.Status.TheVariants.{Finished, Full, More}
use Rattle.search.specs.Search.{Search, branch_set, row_at, current, barring, written, tried, next, run}
use Rattle.search.proofs.Sound.{by-status}
use Rattle.search.proofs.Portions.{stands}
use Rattle.engine.specs.declared.call.Call.{Call}
use Rattle.engine.specs.declared.call.Call.TheVariants.{Aim, Advance, Show, Line, Bounds}
use Rattle.engine.specs.Questions.{door_asked, budget_asked}
use Rattle.engine.specs.Studies.{State, aim_asked, aimed_by, aim_from, progress_when, advance_of, advanced_when, advance_from, listed, is_finished, finished, called}
use Rattle.engine.specs.Stages.{head_of, door_of}
use Rattle.engine.specs.Runs.{is_accepted, accepts_aim, NoAimAccepted, tries_after_aim, tries_after_advance, tries_after_call, tries_answered}

pub finished-status : (t : Status) → is_finished t ≡ true → t ≡ Finished
finished-status Finished e = refl
finished-status Full e = absurd (clash refl e)
finished-status More e = absurd (clash refl e)

module _ (net : Net) (door : ℕ) where
  added : (rows : List Row) → map (branch_set net) (tried net door rows) ≡ map (branch_set net) rows ++ map (branch_set net) (written net door (row_at rows (current net rows)))
  unfolding tried barring branch_set
  added rows =
      let i = current net rows in
      let x = barring net (row_at rows i) in
      let w = written net door (row_at rows i) in
      map-append (branch_set net) (set rows i x) w ∙ ap (λ l. l ++ map (branch_set net) w) (map-set_same (branch_set net) rows i x _ refl)

  -- the branch sets only grow in number
  adds : (k : ℕ) (s : Search) → (more : List ℕ) × (listed net (run net door k s) ≡ listed net s ++ more)
  unfolding run
  adds zero s = ([], sym (append-nil _))
  adds (suc k) s =
      let (p, e) = once in
      let (q, f) = adds k (next net door s) in
      (p ++ q, f ∙ ap (λ l. l ++ q) e ∙ append_assoc (listed net s) p q)
    where
      once : (more : List ℕ) × (listed net (next net door s) ≡ listed net s ++ more)
      once = by-status (λ t. (more : List ℕ) × (listed net t ≡ listed net s ++ more)) net door s (λ _. (_, added s.rows)) ([], sym (append-nil _))

  -- tries are only added
  pub tries-grow : (k : ℕ) (s : Search) → s.tries ≤ (run net door k s).tries
  unfolding run
  tries-grow zero s = omega arith
  tries-grow (suc k) s =
      by-status (λ t. s.tries ≤ (run net door k t).tries) net door s
      (λ _. omega (arith, tries-grow k (record { rows = tried net door s.rows; tries = s.tries + 1 }))) (tries-grow k s)

  -- a later search lists more, but not once it is finished
  pub record Later (s t : Search) : Type 0 where
    pub more : List ℕ
    pub list : listed net t ≡ listed net s ++ more
    pub stays : finished net door s ≡ true → (more ≡ []) × (finished net door t ≡ true)

  later_same : (s : Search) → Later s s
  later_same s = record { more = []; list = sym (append-nil _); stays = λ f. (refl, f) }

  later-on : (s t u : Search) → Later s t → Later t u → Later s u
  later-on s t u p q = record {
    more = p.more ++ q.more;
    list = q.list ∙ ap (λ l. l ++ q.more) p.list ∙ append_assoc (listed net s) p.more q.more;
    stays = λ f. let (e, g) = p.stays f in let (i, h) = q.stays g in (ap (λ l. l ++ q.more) e ∙ i, h);
  }

  halted : {t : Status} → t ≡ Finished → t ≡ More → ⊥
  halted e m = cc

  later-run : (k : ℕ) (s : Search) → Later s (run net door k s)
  later-run k s = elim (cases_Bool (finished net door s)) [
    | inl f ↦
        let e = stands net door k s (λ m. halted (finished-status _ f) m) in
        record {
          more = [];
          list = ap (listed net) e ∙ sym (append-nil _);
          stays = λ _. (refl, ap (finished net door) e ∙ f);
        }
    | inr f ↦
        let (m, e) = adds k s in record { more = m; list = e; stays = λ g. absurd (clash f g) }
  ]

  -- the door stays, and the search goes on
  abbrev pub Follows : State → State → Type 0
  Follows s t = (door_of t.stage ≡ Some door) × Later s.search t.search

module _ (net : Net) where
  module _ (door : ℕ) where
    follows-aim : (s : State) → door_of s.stage ≡ Some door → (d : ℕ) (h : Option ℕ) → is_accepted (aim_asked net h d) ≡ false → Follows net door s (aim_from net h d s)
    follows-aim s e d None n = (e, later_same net door s.search)
    follows-aim s e d (Some head) n = go (door_asked net head d) n
      where
        go : (q : Asked StudyFault) → is_accepted q ≡ false → Follows net door s (aimed_by net head d s q)
        go (Ok u) n = absurd (clash n refl)
        go (Err f) n = (e, later_same net door s.search)

    follows-advance : (s : State) → door_of s.stage ≡ Some door → (k : ℕ) → Follows net door s (advance_from net (door_of s.stage) k s)
    follows-advance s e k = subst (λ d. Follows net door s (advance_from net d k s)) (sym e) (go (budget_asked k))
      where
        go : (q : Asked StudyFault) → Follows net door s (advanced_when net door k s q)
        go (Ok u) = (e, later-run net door k s.search)
        go (Err f) = (e, later_same net door s.search)

    follows-call : (s : State) → door_of s.stage ≡ Some door → (c : Call) → accepts_aim net s c ≡ false → Follows net door s (called net s c)
    follows-call s e (Aim d) n = follows-aim s e d (head_of s.stage) n
    follows-call s e (Advance k) n = follows-advance s e k
    follows-call s e (Show k) n = (e, later_same net door s.search)
    follows-call s e (Line k) n = (e, later_same net door s.search)
    follows-call s e (Bounds which) n = (e, later_same net door s.search)

    -- while no aim is accepted
    pub follows : (calls : List Call) (s : State) → door_of s.stage ≡ Some door → NoAimAccepted net s calls → Follows net door s (fold (called net) s calls)
    follows [] s e h = (e, later_same net door s.search)
    follows (c ∷ calls) s e h =
        let t = called net s c in
        let one = follows-call s e c h.0 in
        let rest = follows calls t one.0 h.1 in
        (rest.0, later-on net door s.search t.search (fold (called net) t calls).search one.1 rest.1)

  -- the tries that the answers tell are those of the search
  counted-call : (s : State) (c : Call) → tries_after_call net s s.search.tries c ≡ (called net s c).search.tries
  counted-call s (Aim d) = go (head_of s.stage)
    where
      by : (head : ℕ) (q : Asked StudyFault) → tries_after_aim s.search.tries q ≡ (aimed_by net head d s q).search.tries
      by head (Ok u) = refl
      by head (Err f) = refl

      go : (h : Option ℕ) → tries_after_aim s.search.tries (aim_asked net h d) ≡ (aim_from net h d s).search.tries
      go None = refl
      go (Some head) = by head (door_asked net head d)
  counted-call s (Advance k) = go (door_of s.stage)
    where
      by : (door : ℕ) (q : Asked StudyFault) → tries_after_advance s.search.tries (progress_when net door k s.search q) ≡ (advanced_when net door k s q).search.tries
      by door (Ok u) = omega (arith, tries-grow net door k s.search)
      by door (Err f) = refl

      go : (d : Option ℕ) → tries_after_advance s.search.tries (advance_of net d k s.search) ≡ (advance_from net d k s).search.tries
      go None = refl
      go (Some door) = by door (budget_asked k)
  counted-call s (Show k) = refl
  counted-call s (Line k) = refl
  counted-call s (Bounds which) = refl

  pub counted : (calls : List Call) (s : State) (n : ℕ) → n ≡ s.search.tries → tries_answered net s n calls ≡ (fold (called net) s calls).search.tries
  counted [] s n e = e
  counted (c ∷ calls) s n e = counted calls (called net s c) (tries_after_call net s n c) (ap (λ m. tries_after_call net s m c) e ∙ counted-call s c)
