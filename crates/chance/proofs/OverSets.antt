-- Sums over the sets of able branches, one branch at a time.
use Rattle.std.proofs.Common.{ℕ, ◌+◌, ◌-◌, ◌*◌, ◌/◌, ◌%◌, Bool, cond, not, ◌&&◌, ◌||◌, eqb, List, [], ◌∷◌}
use Rattle.network.specs.declared.rating.Rating.{Rating}
use Rattle.chance.proofs.Risks.{Risk, unit}

-- whether the first branch is in the set; the rest of the set, for the rest of the branches, is its half
abbrev pub first : ℕ → Bool
first z = eqb (z % 2) 1

-- the sum of f over every set of able branches
unfoldable pub over_sets : List Risk → (ℕ → ℕ) → ℕ
over_sets [] f = f 0
over_sets (b ∷ bs) f =
    over_sets bs (λ z. f (2 * z)) + cond b.able (over_sets bs (λ z. f (2 * z + 1))) 0

-- the product of the denominators of all able branches
unfoldable pub units : List Risk → ℕ
units [] = 1
units (b ∷ bs) = cond b.able (unit b.rating) 1 * units bs

-- the chance that just the branches of z fail, over `units`
unfoldable pub weight : List Risk → ℕ → ℕ
weight [] z = 1
weight (b ∷ bs) z =
    cond b.able (cond (first z) b.rating.mantissa (unit b.rating - b.rating.mantissa)) 1 * weight bs (z / 2)

-- the chance of the sets that pass a test, over `units`
abbrev pub exact : List Risk → (ℕ → Bool) → ℕ
exact bs cut = over_sets bs (λ z. cond (cut z) (weight bs z) 0)

-- whether z is a set of able branches
unfoldable pub able_set : List Risk → ℕ → Bool
able_set [] z = eqb z 0
able_set (b ∷ bs) z = (not (first z) || b.able) && able_set bs (z / 2)

-- the product of the ratings of a set's branches, one branch at a time
unfoldable pub halved : {Num : Type 0} → (Num → Rating → Num) → Num → List Rating → ℕ → Num
halved times n [] z = n
halved times n (r ∷ rs) z = halved times (cond (first z) (times n r) n) rs (z / 2)
