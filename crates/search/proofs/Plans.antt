-- The current row, the try that is planned, and tries one after another.
use Rattle.std.proofs.Common.{◌≡◌, ℕ, ◌+◌, ◌-◌, ◌<◌, ◌≤◌, Bool, true, false, cond, not, ◌&&◌, ltb, leb, List, [], ◌∷◌, ◌++◌, length, get_or, drop, set, is_some, Some, None, Ok, Err, Option, Result, sym, refl, ap, ◌∙◌, subst, ap₂, inl, inr, arith, length-set}
use Rattle.std.specs.List.{slice_get, slice_range}
use Rattle.std.specs.Option.{ok_or}
use Rattle.std.proofs.lemmas.List.{get_or_append_left, get_or-set_other, get_or-take, get_or-drop}
use Rattle.std.proofs.lemmas.Option.{cond_some, none-some, slice_get_read}
use Rattle.std.proofs.lemmas.Bool.{cases_lt, cond-true, cond-false, ltb-true, lt-ltb, le-ltb, le-leb, and_from}
use Rattle.network.specs.Meaning.{Net}
use Rattle.sets.specs.Masks.{lowest}
use Rattle.sets.proofs.Members.{least-is}
use Rattle.sets.proofs.Shifts.{least-unique}
use Rattle.sets.proofs.Nth.{nth-is, below-some, at-left-more, at-left-none}
use Rattle.search.specs.declared.row.Row.{Row}
use Rattle.search.specs.declared.status.Status.{Status}
use Rattle.search.specs.declared.status.Status.TheVariants.{Finished, Full, More}
use Rattle.search.specs.declared.plan.Try.{Try}
use Rattle.search.specs.declared.plan.Halt.{Halt}
use Rattle.search.specs.declared.plan.Halt.TheVariants as halts
use Rattle.search.specs.Search.{Search, searched, share, row_at, open_row, candidate, lowest_candidate, current, grown, writes, room, status, barring, written, tried, next, run}
use Rattle.search.specs.Steps.{Shut, first_open, row_by, chosen, next_by, planned, listed, applied, Fits, Room}
use Rattle.search.proofs.Sound.{more-open, shut-finished}

-- what asking for the lowest candidate answers
abbrev asked : Net → Row → Option ℕ
asked net r = lowest net.nodes (candidate net r)

found-is : (net : Net) (r : Row) (v : ℕ) → Some v ≡ asked net r → v ≡ lowest_candidate net r
unfolding lowest_candidate
found-is net r v h = sym (cond_some _ _ v (sym h)).1

some_tests : (m : ℕ) (t : Bool) → is_some (cond t (Some m) None) ≡ t
some_tests m true = refl
some_tests m false = refl

asked-tells : (net : Net) (r : Row) → is_some (asked net r) ≡ open_row net r
unfolding lowest_candidate
asked-tells net r = some_tests _ _

-- the rows from a place on, one of them read
pub tail-read : (rows rows' tail : List Row) (first i : ℕ) (r : Row) → rows' ≡ rows → tail ≡ slice_range rows' first (length rows') → length tail + first ≡ length rows'
    → i < length tail → r ≡ get_or tail i r → slice_get rows (first + i) ≡ Some r
tail-read rows rows' tail first i r q e n l h =
    let long = ap length q in
    slice_get_read rows (length rows) (first + i) r refl (omega arith)
    (h ∙ ap (λ t. get_or t i r) e ∙ get_or-take (length rows' - first) (drop first rows') i r (omega arith) ∙ get_or-drop first rows' i r ∙ ap (λ t. get_or t (first + i) r) q)

-- what the search for the current row has come to at row k
module _ (net : Net) (rows : List Row) (k : ℕ) (h : Shut net rows k) where
  unopened : length rows ≤ k → length rows ≡ current net rows
  unfolding current
  unopened l = least-unique (length rows) (λ i. open_row net (row_at rows i)) (length rows) (record { within = omega arith; passes = λ m. absurd (omega arith); before = λ i m. h i (omega arith) })

  pub first-past : length rows ≤ k → None ≡ first_open net rows
  first-past l = sym (cond-false (ltb (current net rows) (length rows)) _ _ (le-ltb _ _ (omega (arith, unopened l))))

  module _ (r : Row) (read : slice_get rows k ≡ Some r) where
    opened : open_row net (row_at rows k) ≡ true → k ≡ current net rows
    unfolding current
    opened t = least-unique (length rows) (λ i. open_row net (row_at rows i)) k (record { within = omega (arith, below-some rows k r read); passes = λ _. t; before = h })

    told : (o : Option ℕ) → o ≡ asked net r → is_some o ≡ open_row net (row_at rows k)
    told o f = ap is_some f ∙ asked-tells net r ∙ ap (open_row net) (nth-is rows k r _ read)

    pub first-here : (v : ℕ) → Some v ≡ asked net r → Some (k, v) ≡ first_open net rows
    first-here v f =
        let p = opened (sym (told (Some v) f)) in
        let l = below-some rows k r read in
        ap (λ i. Some (i, v)) p ∙ ap (λ m. Some (current net rows, m)) (found-is net r v f ∙ ap (lowest_candidate net) (nth-is rows k r _ read ∙ ap (row_at rows) p))
        ∙ sym (cond-true (ltb (current net rows) (length rows)) _ _ (lt-ltb _ _ (omega arith)))

    pub shut-more : None ≡ asked net r → Shut net rows (k + 1)
    shut-more f i l = elim (cases_lt i k) [
      | inl m ↦ h i m
      | inr m ↦ ap (λ j. open_row net (row_at rows j)) (let e : i ≡ k = omega arith in e) ∙ sym (told None f)
    ]

-- the row that a try writes, by its test
clear-tells : (b : Bool) (r : Row) → is_some (cond b None (Some r)) ≡ not b
clear-tells true r = refl
clear-tells false r = refl

clear-listed : (b : Bool) (r : Row) → listed (cond b None (Some r)) ≡ cond (not b) (r ∷ []) []
clear-listed true r = refl
clear-listed false r = refl

module _ (net : Net) (door : ℕ) (r : Row) where
  abbrev its_row : Option Row
  its_row = row_by net door r (lowest_candidate net r)

  row-tells : is_some its_row ≡ writes net door r
  unfolding writes grown
  row-tells = clear-tells (share (grown net door r) r.barred) (record { inside = grown net door r; barred = r.barred })

  row_listed : listed its_row ≡ written net door r
  unfolding written writes grown
  row_listed = clear-listed (share (grown net door r) r.barred) (record { inside = grown net door r; barred = r.barred })

-- what the code has in hand is what is chosen
pub record Found (net : Net) (door : ℕ) (rows : List Row) (k v : ℕ) (w : Option Row) : Type 0 where
  pub place : k ≡ current net rows
  pub node : v ≡ lowest_candidate net (row_at rows (current net rows))
  pub new : w ≡ row_by net door (row_at rows (current net rows)) (lowest_candidate net (row_at rows (current net rows)))
  pub below : current net rows < length rows

pub found_all : (net : Net) (door : ℕ) (rows rows' : List Row) (k v : ℕ) (w : Option Row) (r : Row) → Some (k, v) ≡ first_open net rows → rows' ≡ rows → r ≡ get_or rows' k r → w ≡ row_by net door r v
    → Found net door rows k v w
found_all net door rows rows' k v w r f q e h =
    let found = cond_some (ltb (current net rows) (length rows)) _ _ (sym f) in
    let l = ltb-true _ _ found.0 in
    let p = ap (λ x. x.0) (sym found.1) in
    let n = ap (λ x. x.1) (sym found.1) in
    let read = slice_get_read rows (length rows) k r refl (omega arith) (e ∙ ap (λ t. get_or t k r) q) in
    record { place = p; node = n; new = h ∙ ap₂ (row_by net door) (nth-is rows k r _ read ∙ ap (row_at rows) p) n; below = l }

pub ok_or-some : {A E : Type 0} (o : Option A) (e : E) (x : A) → ok_or o e ≡ Ok x → o ≡ Some x
ok_or-some None e x h = cc
ok_or-some (Some y) e x h = let q : y ≡ x = cc in ap Some q

pub ok_or-none : {A E : Type 0} (o : Option A) (e f : E) → ok_or o e ≡ Err f → o ≡ None
ok_or-none None e f h = refl
ok_or-none (Some y) e f h = cc

-- no row has a candidate
pub plan-none : (net : Net) (door : ℕ) (rows : List Row) → None ≡ first_open net rows → Err halts.Finished ≡ planned net door rows
plan-none net door rows f = sym (ap (next_by (chosen net door rows)) (shut-finished net door rows (elim (cases_lt (current net rows) (length rows)) [
  | inl l ↦ absurd (none-some _ (f ∙ cond-true (ltb (current net rows) (length rows)) _ _ (lt-ltb _ _ l)))
  | inr l ↦ l
])))

abbrev try_of : ℕ → ℕ → Option Row → Try
try_of k v w = record { row = k; node = v; written = w }

module _ {net : Net} {door : ℕ} {rows : List Row} {k v : ℕ} {w : Option Row} (c : Found net door rows k v w) where
  status-is : (b : Bool) → (leb room (length rows) && is_some w) ≡ b → status net door rows ≡ cond b Full More
  unfolding status
  status-is b e =
      cond-true (ltb (current net rows) (length rows)) _ Finished (lt-ltb _ _ c.below)
      ∙ ap (λ t. cond (leb room (length rows) && t) Full More) (sym (ap is_some c.new ∙ row-tells net door (row_at rows (current net rows)))) ∙ ap (λ t. cond t Full More) e

  pub plan-full : (leb room (length rows) && is_some w) ≡ true → Err halts.Full ≡ planned net door rows
  plan-full i = sym (ap (next_by (chosen net door rows)) (status-is true i))

  pub plan-go : (leb room (length rows) && is_some w) ≡ false → Ok (record { row = k; node = v; written = w }) ≡ planned net door rows
  plan-go o =
      ap (λ x. Ok (try_of x v w)) c.place ∙ ap (λ x. Ok (try_of (current net rows) x w)) c.node
      ∙ ap (λ x. Ok (try_of (current net rows) (lowest_candidate net (row_at rows (current net rows))) x)) c.new
      ∙ sym (ap (next_by (chosen net door rows)) (status-is false o))

-- a plan by the status
go-by : (t t' : Try) (s : Status) → next_by t s ≡ Ok t' → (s ≡ More) × (t ≡ t')
go-by t t' Finished e = cc
go-by t t' Full e = cc
go-by t t' More e = (refl, let q : t ≡ t' = cc in q)

go-is : (net : Net) (door : ℕ) (rows : List Row) (t : Try) → planned net door rows ≡ Ok t → (status net door rows ≡ More) × (chosen net door rows ≡ t)
go-is net door rows t e = go-by (chosen net door rows) t (status net door rows) e

chosen-applied : (net : Net) (door : ℕ) (rows : List Row) → applied (chosen net door rows) rows ≡ tried net door rows
unfolding tried barring
chosen-applied net door rows = ap (λ w. set rows (current net rows) (barring net (row_at rows (current net rows))) ++ w) (row_listed net door (row_at rows (current net rows)))

fits-when : (w : Option Row) (n : ℕ) → (is_some w ≡ true → n < 512) → Fits w n
fits-when None n h = tt
fits-when (Some r) n h = h refl

chosen-room : (net : Net) (door : ℕ) (rows : List Row) → status net door rows ≡ More → Room (chosen net door rows) (length rows)
unfolding status
chosen-room net door rows e =
    let r = row_at rows (current net rows) in
    let l = more-open net door rows e in
    let q = sym (cond-true (ltb (current net rows) (length rows)) (cond (leb room (length rows) && writes net door r) Full More) Finished (lt-ltb _ _ l)) ∙ e in (
      l,
      fits-when (row_by net door r (lowest_candidate net r)) (length rows) (λ w. elim (cases_lt (length rows) 512) [
        | inl h ↦ h
        | inr h ↦
            let u = sym (cond-true (leb room (length rows) && writes net door r) Full More (and_from (leb room (length rows)) _ (le-leb room (length rows) h) (sym (row-tells net door r) ∙ w))) ∙ q in
            cc
      ]),
    )

-- a try leaves the rows before the current one as they were
shut-after : (net : Net) (door : ℕ) (rows : List Row) → status net door rows ≡ More → Shut net (tried net door rows) (current net rows)
unfolding tried current
shut-after net door rows e i l =
    let c = current net rows in
    let x = barring net (row_at rows c) in
    let m = more-open net door rows e in
    let d : Row = record { inside = 0; barred = 0 } in
    ap (open_row net) (get_or_append_left (set rows c x) (written net door (row_at rows c)) d i (omega (arith, length-set rows c x)) ∙ get_or-set_other rows c i x d (λ q. omega arith))
    ∙ (least-is (length rows) (λ i. open_row net (row_at rows i))).before i l

-- tries that are left
pub run_step : (net : Net) (door n i : ℕ) (rows : List Row) (t : ℕ) → i < n → status net door rows ≡ More
    → run net door (n - i) (searched rows t) ≡ run net door (n - (i + 1)) (searched (tried net door rows) (t + 1))
unfolding run next
run_step net door n i rows t l e =
    at-left-more (λ m. run net door m (searched rows t)) n i l
    ∙ ap (λ s. run net door (n - (i + 1)) (elim s [ Finished ↦ searched rows t | Full ↦ searched rows t | More ↦ searched (tried net door rows) (t + 1) ])) e

pub run_none : (net : Net) (door n i : ℕ) (s : Search) → n ≤ i → run net door (n - i) s ≡ s
unfolding run
run_none net door n i s l = at-left-none (λ m. run net door m s) n i l

-- no plan of a try
no-go : (t : Try) (s : Status) → (n : Result Try Halt) → n ≡ next_by t s → ((x : Try) → n ≡ Ok x → ⊥) → s ≡ More → ⊥
no-go t s n e h m = h t (e ∙ ap (next_by t) m)

pub not_more : (net : Net) (door : ℕ) (rows : List Row) (n : Result Try Halt) → n ≡ planned net door rows → ((x : Try) → n ≡ Ok x → ⊥) → status net door rows ≡ More → ⊥
not_more net door rows n e h = no-go (chosen net door rows) (status net door rows) n e h

-- what making the planned try does
pub record Made (net : Net) (door : ℕ) (rows rows' : List Row) (t : Try) : Type 0 where
  pub more : status net door rows ≡ More
  pub same : rows' ≡ tried net door rows
  pub shut : Shut net rows' t.row

pub made-is : (net : Net) (door : ℕ) (rows rows' : List Row) (t : Try) (n : Result Try Halt) → n ≡ planned net door rows → n ≡ Ok t → rows' ≡ applied t rows → Made net door rows rows' t
made-is net door rows rows' t n p q h =
    let (m, e) = go-is net door rows t (sym p ∙ q) in
    let s : rows' ≡ tried net door rows = h ∙ ap (λ x. applied x rows) (sym e) ∙ chosen-applied net door rows in
    record { more = m; same = s; shut = subst (λ x. Shut net rows' x.row) e (subst (λ x. Shut net x (current net rows)) (sym s) (shut-after net door rows m)) }

pub go-room : (net : Net) (door : ℕ) (rows : List Row) (t : Try) (n : Result Try Halt) → n ≡ planned net door rows → n ≡ Ok t → Room t (length rows)
go-room net door rows t n p q = let (m, e) = go-is net door rows t (sym p ∙ q) in subst (λ x. Room x (length rows)) e (chosen-room net door rows m)
