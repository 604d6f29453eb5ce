-- An advance: its tries are paid for, so that their sum fits, and are at most the budget.
use Rattle.std.proofs.Common.{◌≡◌, ℕ, ◌+◌, ◌^◌, ◌<◌, ◌≤◌, ap, inl, inr, arith}
use Rattle.network.specs.Meaning.{Net, Legal}
use Rattle.search.specs.declared.table.Table.{Table}
use Rattle.search.specs.Barred.{all_barred}
use Rattle.search.specs.Search.{Search, searched, run}
use Rattle.search.specs.Tables.{rows_of}
use Rattle.search.proofs.Paid.{paid-after, few-each}
use Rattle.search.proofs.Portions.{run-counts}
use Rattle.search.proofs.Tables.{few-rows}
use Rattle.engine.specs.declared.progress.Progress.{Progress}
use Rattle.engine.specs.Studies.{progress}

-- the tries are still paid for
module _ {net : Net} (legal : Legal net) (door k : ℕ) (before later : Table) (t r : ℕ)
    (e : searched (rows_of later) (t + r) ≡ run net door k (searched (rows_of before) t)) (p : t ≤ all_barred (rows_of before)) where
  pub still-paid : t + r ≤ all_barred (rows_of later)
  still-paid = paid-after legal door k (rows_of before) (rows_of later) t (t + r) e p

  pub sum_fits : t + r < 2 ^ 32
  sum_fits = omega (arith, still-paid, few-each (rows_of later), few-rows later)

-- a run makes at most so many tries
pub tries-within : (net : Net) (door k : ℕ) (s : Search) (made : Progress) → made ≡ progress net door k s → made.tries ≤ k
tries-within net door k s made e =
    let same = ap (λ (p : Progress). p.tries) e in
    elim (run-counts net door k s) [ inl q ↦ omega arith | inr (q, stop) ↦ omega arith ]
