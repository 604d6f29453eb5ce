-- The forms m / 10^e of the nine-figure scale: 0 as 0 / 10^9, 1 as 10^8 / 10^8, and m of nine figures with e from 9 to 60.
use Rattle.std.specs.Prelude.{◌≡◌, ℕ, ◌<◌, ◌≤◌}

abbrev pub Form : ℕ → ℕ → Type 0
Form m e = (m ≤ 999999999) × (8 ≤ e) × (e ≤ 60) × (e ≡ 8 → m ≡ 100000000) × (m < 100000000 → (m ≡ 0) × (e ≡ 9))
