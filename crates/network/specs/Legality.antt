-- Each network's meaning is legal, if those below it are.
use Rattle.std.specs.Prelude.{◌≡◌, ℕ, ◌+◌, ◌<◌, ◌≤◌, Bool, true, false, ◌&&◌, List, [], ◌∷◌, map, length, is_ok, Ok, Err, ◌==◌, nat_lt, refl}
use Rattle.std.proofs.Common.{arith}
use Rattle.std.specs.List.{range_with_len, AllByRecursion}
use Rattle.std.proofs.lemmas.List.FromFn.{length-map-range_with_len, get_or-map-range_with_len}
use Rattle.std.proofs.ByRecursion.{All-from_get_or, All-map, All-weaker}
use Rattle.std.proofs.lemmas.List.{length-map, length-replicate}
use Rattle.std.proofs.lemmas.Bool.{and_parts, cond_both, eqb-false, ltb-true, false≢true}
use Rattle.network.specs.declared.branch.TableRow.{TableRow}
use Rattle.network.specs.declared.rating.Rating.{Rating}
use Rattle.network.specs.Ratings.{rating_fits}
use Rattle.network.specs.Meaning.{Within, Legal, LegalRated}
use Rattle.network.specs.Meaning.{ring_branch, ring_net, ring_rated}
use Rattle.network.specs.Meaning.{branch_of, list_net, list_rated}
use Rattle.network.specs.Questions.{Answer, asked, and_then, row_asked, rows_asked}

-- a ring

within-ring : (n k : ℕ) → k < n → Within n (ring_branch n k)
within-ring n k h =
    (h, cond_both (k + 1 == n) 0 (k + 1) (λ t. t < n) (λ _. omega arith) (λ e. omega (arith, eqb-false (k + 1) n e)))

pub legal-ring : (n : ℕ) → n ≤ 32 → Legal (ring_net n)
legal-ring n h = record {
  nodes = h;
  branches = rw length-map-range_with_len (omega arith);
  ends =
      let f = ring_branch n in
      All-from_get_or (Within n) (map f (range_with_len 0 n)) (f 0) (λ i l.
      let k : i < n = rw length-map-range_with_len at l in
      rw (get_or-map-range_with_len f 0 n i i (f 0) k (omega arith)) (within-ring n i k));
}

pub legal-ring_rated : (n : ℕ) (r : Rating) → n ≤ 32 → LegalRated (ring_rated n r)
legal-ring_rated n r few = record {
  plain = legal-ring n few;
  each = simp (length-replicate, length-map-range_with_len);
}

-- a table that passed its questions

passed : {Fault : Type 0} (yes : Bool) (fault : Fault) (next : Answer Fault) → is_ok (and_then (asked yes fault) next) ≡ true → (yes ≡ true) × (is_ok next ≡ true)
passed true fault next e = (refl, e)
passed false fault next e = absurd (false≢true e)

first-passed : {Fault : Type 0} (first next : Answer Fault) → is_ok (and_then first next) ≡ true → (is_ok first ≡ true) × (is_ok next ≡ true)
first-passed (Ok u) next e = (refl, e)
first-passed (Err fault) next e = absurd (false≢true e)

asked-true : {Fault : Type 0} (yes : Bool) (fault : Fault) → is_ok (asked yes fault) ≡ true → yes ≡ true
asked-true true fault e = refl
asked-true false fault e = absurd (false≢true e)

-- what the questions ask of one row
abbrev pub Sound : ℕ → TableRow → Type 0
Sound n row = Within n (branch_of row) × (rating_fits row.mantissa row.exponent ≡ true)

within-ends : (a b n : ℕ) → (nat_lt a n && nat_lt b n) ≡ true → (a < n) × (b < n)
within-ends a b n e = let t = and_parts (nat_lt a n) (nat_lt b n) e in (ltb-true _ _ t.0, ltb-true _ _ t.1)

sound-row : (n k : ℕ) (row : TableRow) → is_ok (row_asked n k row) ≡ true → Sound n row
sound-row n k row e =
    let h = passed (nat_lt row.from n && nat_lt row.to n) _ (asked (rating_fits row.mantissa row.exponent) _) e in
    (within-ends row.from row.to n h.0, asked-true _ _ h.1)

pub all_sound : (n k : ℕ) (rows : List TableRow) → is_ok (rows_asked n k rows) ≡ true → AllByRecursion (Sound n) rows
all_sound n k [] e = tt
all_sound n k (row ∷ rows) e =
    let h = first-passed (row_asked n k row) (rows_asked n (k + 1) rows) e in (sound-row n k row h.0, all_sound n (k + 1) rows h.1)

module _ (n : ℕ) (rows : List TableRow) (few : n ≤ 32) (short : length rows ≤ 64) (sound : is_ok (rows_asked n 0 rows) ≡ true) where
  pub legal-list : Legal (list_net n rows)
  legal-list = record {
    nodes = few;
    branches = rw length-map short;
    ends = All-map (Within n) branch_of rows (All-weaker (Sound n) _ (λ row h. h.0) rows (all_sound n 0 rows sound));
  }

  pub legal-list_rated : LegalRated (list_rated n rows)
  legal-list_rated = record {
    plain = legal-list;
    each = simp length-map;
  }
