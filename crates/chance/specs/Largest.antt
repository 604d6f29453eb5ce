-- What the low bound is among the differences of all prefixes.
use Rattle.std.specs.Prelude.{◌≡◌, ℕ, suc, ◌<◌, List, length, take}
use Rattle.network.specs.declared.rating.Rating.{Rating}
use Rattle.scale.specs.Fractions.{◌≤ᶠ◌}
use Rattle.scale.specs.Arithmetic.{Arithmetic}
use Rattle.chance.specs.Bounds.{difference}

module _ {Num : Type 0} (s : Arithmetic Num) (ratings : List Rating) (rows : List ℕ) where
  -- the down difference after the first i + 1 rows
  abbrev pub after : ℕ → Num
  after i = difference s ratings (take (suc i) rows)

  -- `lower` is the difference of the shortest prefix, of one row or more, that has the largest; 0 where there is no row
  pub record FirstLargest (lower : Num) : Type 0 where
    pub not_below_any : (i : ℕ) → i < length rows → s.value (after i) ≤ᶠ s.value lower
    pub of_the_shortest : 0 < length rows → (k : ℕ) × (k < length rows) × (lower ≡ after k) × ((i : ℕ) → i < k → s.value lower ≤ᶠ s.value (after i) → ⊥)
    pub without_rows : length rows ≡ 0 → lower ≡ s.zero
