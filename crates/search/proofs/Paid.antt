-- Each try bars a node, so the tries are at most 32 for each row.
use Rattle.std.proofs.Common.{◌≡◌, ℕ, zero, suc, ◌+◌, ◌*◌, ◌<◌, ◌≤◌, not, ◌&&◌, List, [], ◌∷◌, length, set, sym, ap, ◌∙◌, subst, inl, inr, arith}
use lib.Bits.{bit_or}
use Rattle.std.proofs.lemmas.List.Sums.{sum_by-append, sum_by-set}
use Rattle.std.proofs.ByRecursion.{sum_by_le}
use Rattle.std.proofs.lemmas.Bool.{and_parts, not-true, or_left, or_right}
use Rattle.std.specs.List.{AllByRecursion}
use Rattle.network.specs.Meaning.{Net, Legal}
use Rattle.sets.specs.Masks.{has}
use Rattle.sets.proofs.Members.{count-max, count-lt, has-or}
use Rattle.search.specs.declared.row.Row.{Row}
use Rattle.search.specs.declared.status.Status.TheVariants.{More}
use Rattle.search.specs.Search.{Search, searched, single, row_at, candidate, lowest_candidate, current, status, barring, written, tried, next, run}
use Rattle.search.specs.Barred.{barred_nodes, all_barred}
use Rattle.search.proofs.Singles.{single-in}
use Rattle.search.proofs.Sound.{by-status, more-open, open-cand, current-open}
use Rattle.search.proofs.Portions.{run-counts}

module _ {net : Net} (legal : Legal net) where
  barred-more : (r : Row) → lowest_candidate net r < net.nodes → barred_nodes r < barred_nodes (barring net r)
  unfolding barred_nodes barring candidate
  barred-more r l =
      let v = lowest_candidate net r in
      let p = and_parts (not (has r.inside v) && not (has r.barred v)) _ (open-cand net r l) in
      let q = and_parts (not (has r.inside v)) (not (has r.barred v)) p.0 in
      count-lt 32 (has r.barred) (has (bit_or r.barred (single v))) (λ w _ h. has-or r.barred (single v) w ∙ or_left (has r.barred w) (has (single v) w) h) v
      (let f = legal.nodes in omega arith)
      (not-true (has r.barred v) q.1) (has-or r.barred (single v) v ∙ or_right (has r.barred v) (has (single v) v) (single-in legal v l))

  paid-once : (door : ℕ) (rows : List Row) (t : ℕ) → t ≤ all_barred rows → status net door rows ≡ More → t + 1 ≤ all_barred (tried net door rows)
  unfolding tried
  paid-once door rows t p e =
      let i = current net rows in
      let r = row_at rows i in
      let l = more-open net door rows e in
      let x = barring net r in
      let w = written net door r in
      omega (
        arith,
        sum_by-append barred_nodes (set rows i x) w,
        sum_by-set barred_nodes rows i x (record { inside = 0; barred = 0 }) l,
        barred-more r (current-open net rows l),
      )

  abbrev Paid : Search → Type 0
  Paid s = s.tries ≤ all_barred s.rows

  paid-run : (door k : ℕ) (s : Search) → Paid s → Paid (run net door k s)
  unfolding run
  paid-run door zero s p = p
  paid-run door (suc k) s p = paid-run door k (next net door s) (by-status Paid net door s (paid-once door s.rows s.tries p) p)

few : (r : Row) → barred_nodes r ≤ 32
unfolding barred_nodes
few r = count-max 32 (has r.barred)

-- at most 32 barred nodes for each row
pub few-each : (rows : List Row) → all_barred rows ≤ length rows * 32
few-each rows = sum_by_le barred_nodes 32 rows (each rows)
  where
    each : (rows : List Row) → AllByRecursion (λ r. barred_nodes r ≤ 32) rows
    each [] = tt
    each (r ∷ rows) = (few r, each rows)

-- what a run leaves is paid for, if what it began with was
pub paid-after : {net : Net} → Legal net → (door k : ℕ) (rows rows' : List Row) (t t' : ℕ) → searched rows' t' ≡ run net door k (searched rows t) → t ≤ all_barred rows → t' ≤ all_barred rows'
paid-after legal door k rows rows' t t' e p = subst (Paid legal) (sym e) (paid-run legal door k (searched rows t) p)

-- more tries than can be paid for come to an end
pub ended-after : {net : Net} → Legal net → (door k : ℕ) (rows rows' : List Row) (t r : ℕ) → searched rows' (t + r) ≡ run net door k (searched rows t) → t ≤ all_barred rows → length rows' ≤ 512
    → 16385 ≤ k → status net door rows' ≡ More → ⊥
ended-after {net} legal door k rows rows' t r e p l h m =
    let n = ap (λ (u : Search). u.tries) e in
    let paid = paid-after legal door k rows rows' t (t + r) e p in
    elim (run-counts net door k (searched rows t)) [
      | inl q ↦ omega (arith, q, n, paid, few-each rows')
      | inr (q, stop) ↦ stop (ap (λ (u : Search). status net door u.rows) (sym e) ∙ m)
    ]
