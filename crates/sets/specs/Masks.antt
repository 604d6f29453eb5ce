-- Sets of small numbers, as bit masks, and what a test finds among the numbers below a bound.
use Rattle.std.specs.Prelude.{◌≡◌, ℕ, zero, suc, ◌+◌, ◌*◌, ◌/◌, ◌%◌, ◌^◌, Bool, true, false, cond, ◌||◌, List, [], ◌∷◌, ◌++◌, Some, None, Option, ◌==◌, nat_lt}

-- whether v is a member of the set S: bit v of S
unfoldable pub has : ℕ → ℕ → Bool
has S v = S / 2 ^ v % 2 == 1

infix 40 ◌∈◌ ◌∉◌
abbrev pub ◌∈◌ : ℕ → ℕ → Type 0
v ∈ S = has S v ≡ true

abbrev pub ◌∉◌ : ℕ → ℕ → Type 0
v ∉ S = has S v ≡ false

-- the numbers below n that pass a test
unfoldable pub collect : ℕ → (ℕ → Bool) → ℕ
collect zero f = 0
collect (suc n) f = cond (f 0) 1 0 + 2 * collect n (λ v. f (suc v))

-- whether some number below n passes a test
unfoldable pub any : ℕ → (ℕ → Bool) → Bool
any zero f = false
any (suc n) f = f n || any n f

-- the least number below n that passes a test; n where none does
unfoldable pub least : ℕ → (ℕ → Bool) → ℕ
least zero f = 0
least (suc n) f = let m = least n f in cond (nat_lt m n) m (cond (f n) n (suc n))

-- how many numbers below n pass a test
unfoldable pub count : ℕ → (ℕ → Bool) → ℕ
count zero f = 0
count (suc n) f = cond (f n) 1 0 + count n f

-- the least number below n that passes a test, if there is one
abbrev pub lowest : ℕ → (ℕ → Bool) → Option ℕ
lowest n f = cond (nat_lt (least n f) n) (Some (least n f)) None

-- the members below n of the set S, rising
unfoldable pub members : ℕ → ℕ → List ℕ
members zero S = []
members (suc n) S = members n S ++ cond (has S n) (n ∷ []) []
