-- The exact chance that a door is cut off: a sum over every set of branches that is a cut.
use Rattle.std.specs.Prelude.{◌≡◌, ℕ, zero, suc, ◌+◌, ◌-◌, ◌*◌, ◌^◌, ◌<◌, Bool, true, false, cond, not, ◌&&◌, ◌||◌, length, get_or, slice_index_or}
use Rattle.std.proofs.Common.{mul-pos, arith}
use Rattle.std.proofs.Math.Nat.{one-le-pow}
use Rattle.sets.specs.Masks.{has, ◌∈◌}
use Rattle.network.specs.declared.branch.Condition.{Condition}
use Rattle.network.specs.declared.branch.Condition.TheVariants.{Able, Failed, Working}
use Rattle.network.specs.declared.rating.Rating.{Rating}
use Rattle.network.specs.Meaning.{RatedNet}
use Rattle.scale.specs.Fractions.{Fraction}

abbrev pub can_fail : Condition → Bool
can_fail Able = true
can_fail Failed = false
can_fail Working = false

-- whether branch k is able to fail; past the count there is none
abbrev pub able : RatedNet → ℕ → Bool
able net k = can_fail (get_or net.plain.branches k (record { from = 0; to = 0; condition = Failed })).condition

-- the rating of branch k; past the count, one of chance 0
abbrev pub rating : RatedNet → ℕ → Rating
rating net k = slice_index_or net.ratings k (record { mantissa = 0; exponent = 9; small = omega arith; least = omega arith; most = omega arith })

-- each member of Y is one of Z
abbrev pub Within : ℕ → ℕ → Type 0
Within Y Z = (k : ℕ) → k ∈ Y → k ∈ Z

-- a set of branches that are able to fail, and the test for one
abbrev pub AbleSet : RatedNet → ℕ → Type 0
AbleSet net Z = (k : ℕ) → k ∈ Z → able net k ≡ true

unfoldable pub every : ℕ → (ℕ → Bool) → Bool
every zero f = true
every (suc n) f = f 0 && every n (λ k. f (suc k))

abbrev pub able_set : RatedNet → ℕ → Bool
able_set net Z = every (length net.plain.branches) (λ k. not (has Z k) || able net k)

-- sums and products over the numbers below n
unfoldable pub sum_below : ℕ → (ℕ → ℕ) → ℕ
sum_below zero f = 0
sum_below (suc n) f = sum_below n f + f n

unfoldable pub product_below : ℕ → (ℕ → ℕ) → ℕ
product_below zero f = 1
product_below (suc n) f = f 0 * product_below n (λ k. f (suc k))

pub product-positive : (n : ℕ) (f : ℕ → ℕ) → ((k : ℕ) → 0 < f k) → 0 < product_below n f
unfolding product_below
product-positive zero f h = omega arith
product-positive (suc n) f h = mul-pos (h 0) (product-positive n (λ k. f (suc k)) (λ k. h (suc k)))

-- the denominator of branch k, and the product of them all
abbrev pub denominator : RatedNet → ℕ → ℕ
denominator net k = cond (able net k) (10 ^ (rating net k).exponent) 1

abbrev pub denominators : RatedNet → ℕ
denominators net = product_below (length net.plain.branches) (denominator net)

pub one-positive : (a : Bool) (e : ℕ) → 0 < cond a (10 ^ e) 1
one-positive true e = one-le-pow e 10 (omega arith)
one-positive false e = omega arith

-- the chance, over all denominators, that of the branches able to fail just those of Z do: of each member its chance, of each other 1 less its chance
abbrev pub just : RatedNet → ℕ → ℕ
just net Z =
    product_below (length net.plain.branches) (λ k.
    cond (able net k) (cond (has Z k) (rating net k).mantissa (10 ^ (rating net k).exponent - (rating net k).mantissa)) 1)

-- the sum over every set of able branches that `cut` tells to be a cut
unfoldable pub cut_off_chance : RatedNet → (ℕ → Bool) → Fraction
cut_off_chance net cut = record {
  top = sum_below (2 ^ length net.plain.branches) (λ Z. cond (able_set net Z && cut Z) (just net Z) 0);
  under = denominators net;
  above_zero = product-positive (length net.plain.branches) (denominator net) (λ k. one-positive (able net k) (rating net k).exponent);
}
