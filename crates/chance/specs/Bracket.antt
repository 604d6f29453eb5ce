-- What the bounds are worth: they bracket the exact chance, and more rows only narrow them.
use Rattle.std.specs.Prelude.{◌≡◌, ℕ, ◌<◌, Bool, true, List, [], ◌++◌, length, slice_index}
use Rattle.std.specs.List.{AllByRecursion}
use Rattle.network.specs.declared.rating.Rating.{Rating}
use Rattle.network.specs.Meaning.{RatedNet}
use Rattle.scale.specs.Fractions.{◌≤ᶠ◌}
use Rattle.scale.specs.Arithmetic.{Arithmetic, Rounded}
use Rattle.chance.specs.Bounds.{low, high}
use Rattle.chance.specs.CutOff.{Within, AbleSet, cut_off_chance}

module _ (net : RatedNet) (cut : ℕ → Bool) where
  -- a set of able branches around a cut is a cut
  abbrev pub Grows : Type 0
  Grows = (Y Z : ℕ) → AbleSet net Y → AbleSet net Z → Within Y Z → cut Y ≡ true → cut Z ≡ true

  abbrev pub AreCuts : List ℕ → Type 0
  AreCuts rows = AllByRecursion (λ Z. AbleSet net Z × (cut Z ≡ true)) rows

  -- within every cut lies a row
  abbrev pub Complete : List ℕ → Type 0
  Complete rows = (Z : ℕ) → AbleSet net Z → cut Z ≡ true → (k : ℕ) × (k < length rows) × Within (slice_index rows k) Z

-- the bounds enclose the chance of every test for cuts that the rows meet
abbrev pub Brackets : {Num : Type 0} → Arithmetic Num → RatedNet → List ℕ → Bool → Num → Num → Type 0
Brackets s net rows finished lower upper =
    (cut : ℕ → Bool) → Grows net cut → AreCuts net cut rows → (finished ≡ true → Complete net cut rows)
    → (s.value lower ≤ᶠ cut_off_chance net cut) × (cut_off_chance net cut ≤ᶠ s.value upper)

-- as rows are added the low bound never falls and the high bound never rises; to a finished list no row is added
abbrev pub Narrowing : Type 0 → Type 0
Narrowing Num =
    (s : Arithmetic Num) → Rounded s → (ratings : List Rating) (rows more : List ℕ) (earlier later : Bool)
    → (earlier ≡ true → (more ≡ []) × (later ≡ true))
    → (s.value (low s ratings rows) ≤ᶠ s.value (low s ratings (rows ++ more)))
    × (s.value (high s ratings later (rows ++ more)) ≤ᶠ s.value (high s ratings earlier rows))
