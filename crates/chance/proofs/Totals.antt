-- The products of the rows, added up, against the sum over all cuts.
use Rattle.std.proofs.Common.{◌≡◌, ℕ, zero, suc, ◌+◌, ◌*◌, ◌<◌, ◌≤◌, Bool, true, false, cond, T, List, [], ◌∷◌, ◌++◌, map, length, get_or, ◌∙◌, mul-le-mul_right, add-mul, arith}
use lib.Bits.{bit_or}
use Rattle.std.specs.List.{AllByRecursion}
use Rattle.std.proofs.ByRecursion.{All-weaker, All-push, All-append, All-map}
use Rattle.chance.proofs.Risks.{Risk, AbleRisks}
use Rattle.chance.proofs.OverSets.{over_sets, units, weight, exact}
use Rattle.chance.specs.Bounds.{united}
use Rattle.chance.specs.CutOff.{Within}
use Rattle.chance.proofs.Masks.{able-or}
use Rattle.chance.proofs.Weights.{sets-le, sets-add, sets_same, sets-none, inside, around, weight-sum, weight-all, inside-le, inside-or, inside-within, within-inside}
use Rattle.chance.proofs.Counting.{total, at-le-total, counted}

pub all-united : (bs : List Risk) (before rows : List ℕ) → AllByRecursion (AbleRisks bs) before → AllByRecursion (AbleRisks bs) rows → AllByRecursion (AbleRisks bs) (united before rows)
unfolding united
all-united bs before [] p q = tt
all-united bs before (c ∷ rows) p q =
    All-append (AbleRisks bs) (map (λ d. bit_or d c) before) (united (before ++ c ∷ []) rows)
    (All-map (AbleRisks bs) (λ d. bit_or d c) before (All-weaker (AbleRisks bs) (λ d. AbleRisks bs (bit_or d c)) (λ d a. able-or bs d c a q.0) before p))
    (all-united bs (before ++ c ∷ []) rows (All-push (AbleRisks bs) before c p q.0) q.1)

-- the products of a list of sets, set by set or over all sets
pub total-around : (bs : List Risk) → (rows : List ℕ) → AllByRecursion (AbleRisks bs) rows
    → over_sets bs (λ z. total (λ c. inside bs c z) rows * weight bs z) ≡ total (around bs) rows
total-around bs [] a = sets_same bs (λ z. omega arith) ∙ sets-none bs
total-around bs (c ∷ rows) a =
    sets_same bs (λ z. add-mul (inside bs c z) (total (λ c. inside bs c z) rows) (weight bs z))
    ∙ sets-add bs (λ z. inside bs c z * weight bs z) (λ z. total (λ c. inside bs c z) rows * weight bs z)
    ∙ rw (weight-sum bs c a.0, total-around bs rows a.1)

-- what the bounds stand on, for the sets that pass a test
module _ (bs : List Risk) (cut : ℕ → Bool) where
  abbrev pub Growing : Type 0
  Growing = (c z : ℕ) → AbleRisks bs c → AbleRisks bs z → Within c z → T (cut c) → T (cut z)

  abbrev pub Cutting : List ℕ → Type 0
  Cutting rows = AllByRecursion (λ c. AbleRisks bs c × T (cut c)) rows

  abbrev pub Covering : List ℕ → Type 0
  Covering rows = (z : ℕ) → AbleRisks bs z → T (cut z) → (k : ℕ) × (k < length rows) × Within (get_or rows k 0) z

bounded : (n : ℕ) (t : Bool) → n ≤ 1 → (1 ≤ n → T t) → n ≤ cond t 1 0
bounded n true p q = p
bounded zero false p q = omega arith
bounded (suc n) false p q = absurd (q (omega arith))

weigh : (t : Bool) (w x y : ℕ) → x ≤ cond t 1 0 + y → x * w ≤ cond t w 0 + y * w
weigh true w x y h = omega (arith, mul-le-mul_right w h)
weigh false w x y h = omega (arith, mul-le-mul_right w h)

reached : (t : Bool) (w x : ℕ) → (T t → 1 ≤ x) → cond t w 0 ≤ x * w
reached true w x h = omega (arith, mul-le-mul_right w (h tt))
reached false w x h = omega arith

module _ (bs : List Risk) (cut : ℕ → Bool) where
  pub exact-le : exact bs cut ≤ units bs
  exact-le = rw (← weight-all bs) (sets-le bs _ _ (λ z a. at (cut z) (weight bs z)))
    where
      at : (t : Bool) (w : ℕ) → cond t w 0 ≤ w
      at true w = omega arith
      at false w = omega arith

  -- the rows are at most the cuts and the pairs
  pub low-total : Growing bs cut → (rows : List ℕ) → Cutting bs cut rows
      → total (around bs) rows ≤ exact bs cut + total (around bs) (united [] rows)
  low-total grows rows are =
      let able = All-weaker (λ c. AbleRisks bs c × T (cut c)) (AbleRisks bs) (λ c a. a.0) rows are in
      rw (
        ← total-around bs rows able,
        ← total-around bs (united [] rows) (all-united bs [] rows tt able),
        ← sets-add bs (λ z. cond (cut z) (weight bs z) 0) (λ z. total (λ c. inside bs c z) (united [] rows) * weight bs z),
      )
      (sets-le bs _ _ (λ z a. at z a))
    where
      at : (z : ℕ) → AbleRisks bs z → total (λ c. inside bs c z) rows * weight bs z
          ≤ cond (cut z) (weight bs z) 0 + total (λ c. inside bs c z) (united [] rows) * weight bs z
      at z a =
          weigh (cut z) (weight bs z) _ _ (counted (λ c. inside bs c z) (λ c d. inside-or bs c d z) (λ c. inside-le bs c z) (cond (cut z) 1 0) [] rows
          (All-weaker (λ c. AbleRisks bs c × T (cut c)) (λ c. inside bs c z ≤ cond (cut z) 1 0)
          (λ c h. bounded (inside bs c z) (cut z) (inside-le bs c z) (λ o. grows c z h.0 a (inside-within bs c z h.0 o) h.1)) rows are))

  -- where the rows are complete, the cuts are at most the rows
  pub high-total : (rows : List ℕ) → AllByRecursion (AbleRisks bs) rows → Covering bs cut rows → exact bs cut ≤ total (around bs) rows
  high-total rows able complete =
      rw (← total-around bs rows able) (sets-le bs _ _ (λ z a. reached (cut z) (weight bs z) _ (met z a)))
    where
      met : (z : ℕ) → AbleRisks bs z → T (cut z) → 1 ≤ total (λ c. inside bs c z) rows
      met z a t =
          let (k, l, w) = complete z a t in
          omega (arith, at-le-total (λ c. inside bs c z) rows k l, within-inside bs (get_or rows k 0) z w)
