-- The quotient rounded up.
use Rattle.std.specs.Prelude.{ℕ, ◌+◌, ◌/◌, ◌%◌, min}

abbrev pub ceil_div : ℕ → ℕ → ℕ
ceil_div n d = n / d + min 1 (n % d)
