-- The rows of a table: how many they are, and one of them read or changed.
use Rattle.std.proofs.Common.{◌≡◌, ℕ, ◌<◌, ◌≤◌, length, get_or, take, set, Some, sym, ap, ◌∙◌, ap₂, arith}
use lib.Bits.{bit_or}
use Rattle.std.specs.List.{slice_get}
use Rattle.std.proofs.lemmas.List.{length-take-le, get_or-take}
use Rattle.std.proofs.Math.Seq.{take-set-lt}
use Rattle.std.proofs.lemmas.Option.{slice_get-get_or}
use Rattle.sets.proofs.Nth.{nth-is}
use Rattle.search.specs.declared.row.Row.{Row}
use Rattle.search.specs.declared.table.Table.{Table}
use Rattle.search.specs.Search.{single, row_at, room}
use Rattle.search.specs.Tables.{rows_of, barred_at}

abbrev blank : Row
blank = record { inside = 0; barred = 0 }

pub length-rows : (t : Table) → length (rows_of t) ≡ t.count
length-rows t = length-take-le t.count t.rows (omega (arith, t.few, t.whole))

pub few-rows : (t : Table) → length (rows_of t) ≤ room
few-rows t = omega (arith, length-rows t, t.few)

row_read : (t : Table) (k : ℕ) (d : Row) → k < t.count → get_or t.rows k d ≡ get_or (rows_of t) k d
row_read t k d h = sym (get_or-take t.count t.rows k d h)

pub row-some : (t : Table) (k : ℕ) (d : Row) → k < length (rows_of t) → Some (get_or t.rows k d) ≡ slice_get (rows_of t) k
row-some t k d h =
    let n : length (rows_of t) ≡ t.count = length-rows t in
    ap Some (row_read t k d (omega arith)) ∙ sym (slice_get-get_or (rows_of t) k d h)

-- one row written with a node barred too
module _ (t : Table) (k : ℕ) (h : k < length (rows_of t)) where
  there : (d : Row) → get_or t.rows k d ≡ row_at (rows_of t) k
  there d = nth-is (rows_of t) k _ blank (sym (row-some t k d h))

  pub bar-written : (v b : ℕ) (d : Row) → b ≡ bit_or (get_or t.rows k d).barred (single v)
      → take t.count (set t.rows k (record { inside = (get_or t.rows k d).inside; barred = b })) ≡ barred_at k v (rows_of t)
  bar-written v b d w =
      take-set-lt t.count t.rows k _ (omega (arith, length-rows t))
      ∙ ap₂ (λ i b. set (rows_of t) k (record { inside = i; barred = b })) (ap (λ r. r.inside) (there d)) (w ∙ ap (λ r. bit_or r.barred (single v)) (there d))
