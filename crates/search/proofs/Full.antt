-- A full search: 512 rows stand, and some minimal cut is not among them.
use Rattle.std.proofs.Common.{◌≡◌, ℕ, zero, suc, ◌+◌, ◌<◌, ◌≤◌, Bool, true, false, cond, ◌&&◌, ltb, leb, List, [], ◌∷◌, length, set, sym, refl, ap, ◌∙◌, inl, inr, arith, length-set}
use Rattle.std.proofs.lemmas.List.{length-append}
use Rattle.std.proofs.lemmas.Bool.{cases_Bool, true≢false, ltb-true, leb-true, leb-false}
use Rattle.network.specs.Meaning.{Net, Legal}
use Rattle.search.specs.declared.row.Row.{Row}
use Rattle.search.specs.declared.status.Status.TheVariants.{Finished, Full, More}
use Rattle.search.specs.Cuts.{MinimalCut}
use Rattle.search.specs.Search.{Search, room, run, status, tried, written, writes, grown, barring, branch_set, current, row_at, next}
use Rattle.search.specs.Statement.{Aim}
use Rattle.search.proofs.Sound.{by-status, Inv, try-keeps, sound}
use Rattle.search.proofs.Portions.{try-leaves}

length-written : (b : Bool) (r : Row) → length (cond b (r ∷ []) []) ≡ cond b 1 0
length-written true r = refl
length-written false r = refl

length-tried : (net : Net) (door : ℕ) (rows : List Row) → length (tried net door rows) ≡ length rows + cond (writes net door (row_at rows (current net rows))) 1 0
unfolding tried written
length-tried net door rows =
    let i = current net rows in
    let r = row_at rows i in
    let long = length-append (set rows i (barring net r)) (cond (writes net door r) (record { inside = grown net door r; barred = r.barred } ∷ []) []) in
    let one = length-written (writes net door r) (record { inside = grown net door r; barred = r.barred }) in
    let kept = length-set rows i (barring net r) in
    omega arith

-- no search passes 512 rows

no_more : (a b : Bool) → cond a (cond b Full More) Finished ≡ More → b ≡ false
no_more true true e = cc
no_more true false e = refl
no_more false b e = cc

fits : (n : ℕ) (w : Bool) → (leb 512 n && w) ≡ false → n ≤ 512 → n + cond w 1 0 ≤ 512
fits n true e l = elim (cases_Bool (leb 512 n)) [ inl t ↦ absurd (true≢false (sym (ap (λ b. b && true) t) ∙ e)) | inr f ↦ let p = leb-false 512 n f in omega arith ]
fits n false e l = omega arith

tried-room : (net : Net) (door : ℕ) (rows : List Row) → status net door rows ≡ More → length rows ≤ 512 → length (tried net door rows) ≤ 512
unfolding status
tried-room net door rows e l =
    let i = current net rows in
    let w = writes net door (row_at rows i) in
    omega (arith, length-tried net door rows, fits (length rows) w (no_more (ltb i (length rows)) (leb 512 (length rows) && w) e) l)

pub run-room : (net : Net) (door k : ℕ) (s : Search) → length s.rows ≤ room → length (run net door k s).rows ≤ room
unfolding run
run-room net door zero s l = l
run-room net door (suc k) s l = run-room net door k (next net door s) (by-status (λ t. length t.rows ≤ 512) net door s (λ e. tried-room net door s.rows e l) l)

-- what FULL says
full-parts : (a b c : Bool) → cond a (cond (b && c) Full More) Finished ≡ Full → (a ≡ true) × (b ≡ true) × (c ≡ true)
full-parts true true true e = (refl, refl, refl)
full-parts true true false e = cc
full-parts true false c e = cc
full-parts false b c e = cc

module _ (net : Net) (door : ℕ) (rows : List Row) (e : status net door rows ≡ Full) where
  parts : (ltb (current net rows) (length rows) ≡ true) × (leb room (length rows) ≡ true) × (writes net door (row_at rows (current net rows)) ≡ true)
  unfolding status
  parts = full-parts (ltb (current net rows) (length rows)) (leb room (length rows)) (writes net door (row_at rows (current net rows))) e

  pub full-has-room : room ≤ length rows
  full-has-room = leb-true room (length rows) parts.1

  full-open : current net rows < length rows
  full-open = ltb-true (current net rows) (length rows) parts.0

  longer : length (tried net door rows) ≡ length rows + 1
  longer = length-tried net door rows ∙ ap (λ b. length rows + cond b 1 0) parts.2

-- the try that a full search has no room for would list one minimal cut more
pub full-misses : {net : Net} {head door : ℕ} → Legal net → Aim net head door → (s : Search) → Inv net head door s → status net door s.rows ≡ Full
    → (Z : ℕ) × MinimalCut net head door Z × ((i : ℕ) → i < length s.rows → branch_set net (row_at s.rows i) ≡ Z → ⊥)
full-misses {net} {head} {door} legal aim s v e =
    let t : Search = record { rows = tried net door s.rows; tries = s.tries + 1 } in
    let all = sound legal aim t (try-keeps legal aim s v (full-open net door s.rows e)) in
    let long = longer net door s.rows e in
    let n = length s.rows in (
      branch_set net (row_at t.rows n),
      all.minimal n (omega arith),
      λ i l q. let same : i ≡ n = all.distinct i n (omega arith) (omega arith) ((try-leaves net door s).cuts_stay i l ∙ q) in omega arith,
    )
