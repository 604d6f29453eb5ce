-- The questions of a table, row by row.
use Rattle.std.proofs.Common.{◌≡◌, ℕ, ◌+◌, ◌<◌, ◌≤◌, List, length, get_or, drop, Ok, Err, sym, ap, ◌∙◌}
use Rattle.std.proofs.lemmas.List.{at_drop_more, at_drop_all}
use Rattle.refusals.specs.declared.network_fault.NetworkFault.{NetworkFault}
use Rattle.network.specs.declared.branch.TableRow.{TableRow}
use Rattle.network.specs.Questions.{and_then, row_asked, rows_asked}

module _ (n k : ℕ) (rows : List TableRow) (d : TableRow) (within : k < length rows) where
  step : rows_asked n k (drop k rows) ≡ and_then (row_asked n k (get_or rows k d)) (rows_asked n (k + 1) (drop (k + 1) rows))
  step = at_drop_more (rows_asked n k) rows k d within

  pub rows_more : (u : Unit {0}) → Ok u ≡ row_asked n k (get_or rows k d) → rows_asked n k (drop k rows) ≡ rows_asked n (k + 1) (drop (k + 1) rows)
  rows_more u e = step ∙ ap (λ a. and_then a (rows_asked n (k + 1) (drop (k + 1) rows))) (sym e)

  pub rows-stop : (f : NetworkFault) → Err f ≡ row_asked n k (get_or rows k d) → rows_asked n k (drop k rows) ≡ Err f
  rows-stop f e = step ∙ ap (λ a. and_then a (rows_asked n (k + 1) (drop (k + 1) rows))) (sym e)

pub rows_all : (n k : ℕ) (rows : List TableRow) → length rows ≤ k → rows_asked n k (drop k rows) ≡ Ok tt
rows_all n k rows h = at_drop_all (rows_asked n k) rows k h
