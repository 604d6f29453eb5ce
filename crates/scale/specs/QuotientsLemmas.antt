-- Quotients rounded down and up, as the bounds that they keep.
use Rattle.std.specs.Prelude.{◌≡◌, ℕ, ◌+◌, ◌*◌, ◌/◌, ◌%◌, ◌<◌, ◌≤◌}
use Rattle.std.proofs.Common.{⊎_elim, div-add-mod', mod-lt, mul-le-mul_right, arith}
use Rattle.std.proofs.lemmas.Nat.{div_below}
use Rattle.std.proofs.lemmas.Bool.{cases_lt}
use Rattle.scale.specs.Quotients.{ceil_div}

module _ (n d : ℕ) (pos : 0 < d) where
  pub floor-next : n < n / d * d + d
  floor-next = omega (arith, div-add-mod' n d, mod-lt n pos)

  pub ceil-above : n ≤ ceil_div n d * d
  ceil-above =
      let whole = div-add-mod' n d in
      let rest = mod-lt n pos in
      ⊎_elim
      (λ (z : n % d < 1). let e : ceil_div n d ≡ n / d = omega arith in rw e (omega arith))
      (λ (z : 1 ≤ n % d). let e : ceil_div n d ≡ n / d + 1 = omega arith in rw e (omega arith))
      (cases_lt (n % d) 1)

  pub ceil-before : ceil_div n d * d < n + d
  ceil-before =
      let whole = div-add-mod' n d in
      let rest = mod-lt n pos in
      ⊎_elim
      (λ (z : n % d < 1). let e : ceil_div n d ≡ n / d = omega arith in rw e (omega arith))
      (λ (z : 1 ≤ n % d). let e : ceil_div n d ≡ n / d + 1 = omega arith in rw e (omega arith))
      (cases_lt (n % d) 1)

  pub ceil-least : (k : ℕ) → n ≤ k * d → ceil_div n d ≤ k
  ceil-least k h =
      let whole = div-add-mod' n d in
      let below : n / d < k + 1 = div_below n d (k + 1) pos (omega arith) in
      ⊎_elim
      (λ (z : n / d < k). omega arith)
      (λ (z : k ≤ n / d). let m = mul-le-mul_right d z in omega arith)
      (cases_lt (n / d) k)

  -- the only number within the bounds of the quotient rounded up
  pub ceil-is : (k : ℕ) → n ≤ k * d → k * d < n + d → ceil_div n d ≡ k
  ceil-is k h i =
      let least = ceil-least k h in
      let above = ceil-above in
      ⊎_elim
      (λ (z : ceil_div n d < k). let m = mul-le-mul_right d z in omega arith)
      (λ (z : k ≤ ceil_div n d). omega arith)
      (cases_lt (ceil_div n d) k)
