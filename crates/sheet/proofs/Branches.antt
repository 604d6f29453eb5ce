-- One branch line after another.
use Rattle.std.proofs.Common.{◌≡◌, ℕ, ◌+◌, List, ◌++◌, Some, sym, refl, add-one}
use Rattle.std.specs.List.{slice_get}
use Rattle.network.specs.declared.branch.Branch.{Branch}
use Rattle.network.specs.declared.rating.Rating.{Rating}
use Rattle.sheet.specs.Descriptions.{line_at, lines_below}

pub lines_more : (bs : List Branch) (rs : List Rating) (k j : ℕ) (b : Branch) → j ≡ k → slice_get bs k ≡ Some b
    → lines_below bs rs k ++ line_at j (Some b) (slice_get rs j) ≡ lines_below bs rs (k + 1)
unfolding lines_below
lines_more bs rs k j b e f = rw (e, sym f, add-one) refl
