-- Fractions against one whole number over another.
use Rattle.std.proofs.Common.{◌≡◌, ℕ, ◌+◌, ◌-◌, ◌*◌, ◌≤◌, mul-le-mul_right, mul_comm, mul-le-mul, le_of_mul-le-mul_right, arith}
use native.Mathlib.Nat.{mul-sub}
use Rattle.scale.specs.Fractions.{Fraction, whole, ◌≤ᶠ◌, ◌+ᶠ◌, ◌-ᶠ◌, ◌×ᶠ◌}

-- q is at most x / y, or at least
abbrev pub Under : Fraction → ℕ → ℕ → Type 0
Under q x y = q.top * y ≤ x * q.under

abbrev pub Over : ℕ → ℕ → Fraction → Type 0
Over x y q = x * q.under ≤ q.top * y

module _ (p q : Fraction) where
  pub under-trans : (x y : ℕ) → p ≤ᶠ q → Under q x y → Under p x y
  under-trans x y h k =
      le_of_mul-le-mul_right {k = q.under} (omega (arith, mul-le-mul_right y h, mul-le-mul_right p.under k)) q.above_zero

  pub over-trans : (x y : ℕ) → Over x y p → p ≤ᶠ q → Over x y q
  over-trans x y h k =
      le_of_mul-le-mul_right {k = p.under} (omega (arith, mul-le-mul_right q.under h, mul-le-mul_right y k)) p.above_zero

  pub times-under : (x y : ℕ) → Under p x y → Under (p ×ᶠ q) (x * q.top) (y * q.under)
  times-under x y h = omega (arith, mul-le-mul_right (q.top * q.under) h)

  pub over-times : (x y : ℕ) → Over x y p → Over (x * q.top) (y * q.under) (p ×ᶠ q)
  over-times x y h = omega (arith, mul-le-mul_right (q.top * q.under) h)

  -- sums and differences, against one denominator
  module _ (a b d : ℕ) where
    pub add-under : Under p a d → Under q b d → Under (p +ᶠ q) (a + b) d
    add-under h k = omega (arith, mul-le-mul_right q.under h, mul-le-mul_right p.under k)

    pub over_add : Over a d p → Over b d q → Over (a + b) d (p +ᶠ q)
    over_add h k = omega (arith, mul-le-mul_right q.under h, mul-le-mul_right p.under k)

    pub less-under : (n : ℕ) → Under p a d → Over b d q → a ≤ n + b → Under (p -ᶠ q) n d
    less-under n h k l =
        rw (mul_comm (p.top * q.under - q.top * p.under) d, mul-sub d (p.top * q.under) (q.top * p.under))
        (omega (arith, mul-le-mul_right q.under h, mul-le-mul_right p.under k, mul-le-mul_right (p.under * q.under) l))

  -- less a whole nothing is left
  pub less-whole : (n d : ℕ) → p ≤ᶠ whole 1 → whole 1 ≤ᶠ q → Under (p -ᶠ q) n d
  less-whole n d h k =
      let e : p.top * q.under - q.top * p.under ≡ 0 =
      omega (arith, mul-le-mul {n₁ = p.top} {m₁ = q.under} {n₂ = p.under} {m₂ = q.top} (omega arith) (omega arith)) in
      rw e (omega arith)
