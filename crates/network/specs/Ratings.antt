-- Ratings: which two numbers are one.
use Rattle.std.specs.Prelude.{ℕ, min, max, Bool, cond, ◌&&◌, List, ◌++◌, Some, None, codes, decimal, Option, nat_le}
use Rattle.std.proofs.Common.{arith}
use Rattle.network.specs.declared.rating.Rating.{Rating}

-- m is at most 10^9, and e from 9 to 18
abbrev pub rating_fits : ℕ → ℕ → Bool
rating_fits m e = nat_le m 1000000000 && (nat_le 9 e && nat_le e 18)

-- m / 10^e; numbers that do not fit are taken to the nearest that do, so that every two numbers have a rating
unfoldable pub rating_from : ℕ → ℕ → Rating
rating_from m e = record {
  mantissa = min m 1000000000;
  exponent = max 9 (min e 18);
  small = omega arith;
  least = omega arith;
  most = omega arith;
}

-- the rating of two numbers that fit
abbrev pub checked_rating : ℕ → ℕ → Option Rating
checked_rating m e = cond (rating_fits m e) (Some (rating_from m e)) None

-- a rating in words: m e
abbrev pub rating_text : Rating → List ℕ
rating_text r = decimal r.mantissa ++ (codes " " ++ decimal r.exponent)
