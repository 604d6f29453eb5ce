-- The exact chance over branch numbers is the one over the list of risks.
use Rattle.std.proofs.Common.{◌≡◌, ℕ, zero, suc, ◌+◌, ◌-◌, ◌*◌, ◌/◌, ◌^◌, ◌<◌, Bool, true, false, cond, not, ◌&&◌, ◌||◌, List, [], ◌∷◌, length, get_or, sym, refl, ap, ◌∙◌, ap₂, arith}
use mathlib.Core.Path.{fun_ext}
use Rattle.std.proofs.lemmas.Bool.{eq-eqb}
use Rattle.sets.specs.Masks.{has}
use Rattle.sets.proofs.Members.{has-suc, has-zero}
use Rattle.network.specs.declared.branch.Branch.{Branch}
use Rattle.network.specs.declared.branch.Condition.TheVariants.{Failed}
use Rattle.network.specs.declared.rating.Rating.{Rating}
use Rattle.network.specs.Meaning.{RatedNet, LegalRated}
use Rattle.chance.specs.CutOff.{can_fail, every, AbleSet, sum_below, product_below, denominators, cut_off_chance}
use Rattle.chance.proofs.Risks.{Risk, AbleAt, AbleRisks, ratings_of}
use Rattle.chance.proofs.OverSets.{units, weight, able_set, exact}
use Rattle.chance.proofs.Masks.{T_true}
use Rattle.chance.proofs.Plain.{each-set-once}

abbrev absent : Branch
absent = record { from = 0; to = 0; condition = Failed }

abbrev unrated : Rating
unrated = record { mantissa = 0; exponent = 9; small = omega arith; least = omega arith; most = omega arith }

-- each branch as the bounds see it: whether it is able to fail, and its rating
abbrev paired : List Branch → List Rating → List Risk
paired [] rs = []
paired (b ∷ bs) [] = []
paired (b ∷ bs) (r ∷ rs) = record { able = can_fail b.condition; rating = r } ∷ paired bs rs

abbrev pub risks : RatedNet → List Risk
risks net = paired net.plain.branches net.ratings

length-paired : (bs : List Branch) (rs : List Rating) → length rs ≡ length bs → length (paired bs rs) ≡ length bs
length-paired [] rs e = refl
length-paired (b ∷ bs) [] e = absurd (omega arith)
length-paired (b ∷ bs) (r ∷ rs) e = ap suc (length-paired bs rs (omega arith))

ratings-paired : (bs : List Branch) (rs : List Rating) → length rs ≡ length bs → ratings_of (paired bs rs) ≡ rs
ratings-paired [] [] e = refl
ratings-paired [] (r ∷ rs) e = absurd (omega arith)
ratings-paired (b ∷ bs) [] e = absurd (omega arith)
ratings-paired (b ∷ bs) (r ∷ rs) e = ap (λ qs. r ∷ qs) (ratings-paired bs rs (omega arith))

able-number : (bs : List Branch) (rs : List Rating) (k : ℕ) → AbleAt (paired bs rs) k → can_fail (get_or bs k absent).condition ≡ true
able-number [] rs k a = absurd a
able-number (b ∷ bs) [] k a = absurd a
able-number (b ∷ bs) (r ∷ rs) zero a = T_true _ a
able-number (b ∷ bs) (r ∷ rs) (suc k) a = able-number bs rs k a

number-able : (bs : List Branch) (rs : List Rating) → length rs ≡ length bs → (k : ℕ) → can_fail (get_or bs k absent).condition ≡ true → AbleAt (paired bs rs) k
number-able [] rs e k t = absurd (let z : ◌≡◌ {A = ℕ} 0 1 = cc in omega arith)
number-able (b ∷ bs) [] e k t = absurd (omega arith)
number-able (b ∷ bs) (r ∷ rs) e zero t = rw t tt
number-able (b ∷ bs) (r ∷ rs) e (suc k) t = number-able bs rs (omega arith) k t

half-below : (n z : ℕ) → z < 2 ^ suc n → z / 2 < 2 ^ n
half-below n z l = omega arith

able-numbers : (bs : List Branch) (rs : List Rating) → length rs ≡ length bs → (z : ℕ) → z < 2 ^ length bs
    → able_set (paired bs rs) z ≡ every (length bs) (λ k. not (has z k) || can_fail (get_or bs k absent).condition)
unfolding able_set every
able-numbers [] rs e z l = eq-eqb z 0 (omega arith)
able-numbers (b ∷ bs) [] e z l = absurd (omega arith)
able-numbers (b ∷ bs) (r ∷ rs) e z l =
    ap₂ ◌&&◌ (ap (λ t. not t || can_fail b.condition) (sym (has-zero z)))
    (able-numbers bs rs (omega arith) (z / 2) (half-below (length bs) z l)
    ∙ ap (every (length bs)) (fun_ext (λ k. ap (λ t. not t || can_fail (get_or bs k absent).condition) (sym (has-suc z k)))))

weight-numbers : (bs : List Branch) (rs : List Rating) → length rs ≡ length bs → (z : ℕ)
    → weight (paired bs rs) z
    ≡ product_below (length bs) (λ k. cond (can_fail (get_or bs k absent).condition) (cond (has z k) (get_or rs k unrated).mantissa (10 ^ (get_or rs k unrated).exponent - (get_or rs k unrated).mantissa)) 1)
unfolding weight product_below
weight-numbers [] rs e z = refl
weight-numbers (b ∷ bs) [] e z = absurd (omega arith)
weight-numbers (b ∷ bs) (r ∷ rs) e z =
    ap₂ ◌*◌ (ap (λ t. cond (can_fail b.condition) (cond t r.mantissa (10 ^ r.exponent - r.mantissa)) 1) (sym (has-zero z)))
    (weight-numbers bs rs (omega arith) (z / 2)
    ∙ ap (product_below (length bs)) (fun_ext (λ k.
    ap (λ t. cond (can_fail (get_or bs k absent).condition) (cond t (get_or rs k unrated).mantissa (10 ^ (get_or rs k unrated).exponent - (get_or rs k unrated).mantissa)) 1) (sym (has-suc z k)))))

units-numbers : (bs : List Branch) (rs : List Rating) → length rs ≡ length bs
    → units (paired bs rs) ≡ product_below (length bs) (λ k. cond (can_fail (get_or bs k absent).condition) (10 ^ (get_or rs k unrated).exponent) 1)
unfolding units product_below
units-numbers [] rs e = refl
units-numbers (b ∷ bs) [] e = absurd (omega arith)
units-numbers (b ∷ bs) (r ∷ rs) e = ap (λ n. cond (can_fail b.condition) (10 ^ r.exponent) 1 * n) (units-numbers bs rs (omega arith))

sum_same : (n : ℕ) (f g : ℕ → ℕ) → ((z : ℕ) → z < n → f z ≡ g z) → sum_below n f ≡ sum_below n g
unfolding sum_below
sum_same zero f g h = refl
sum_same (suc n) f g h = ap₂ ◌+◌ (sum_same n f g (λ z l. h z (omega arith))) (h n (omega arith))

both-tests : (a b : Bool) (n : ℕ) → cond a (cond b n 0) 0 ≡ cond (a && b) n 0
both-tests true b n = refl
both-tests false b n = refl

module _ (net : RatedNet) (legal : LegalRated net) where
  abbrev bs : List Branch
  bs = net.plain.branches

  abbrev rs : List Rating
  rs = net.ratings

  pub ratings-same : ratings_of (risks net) ≡ net.ratings
  ratings-same = ratings-paired bs rs legal.each

  pub able-to : (z : ℕ) → AbleRisks (risks net) z → AbleSet net z
  able-to z a k h = able-number bs rs k (a k h)

  pub able-from : (z : ℕ) → AbleSet net z → AbleRisks (risks net) z
  able-from z a k h = number-able bs rs legal.each k (a k h)

  pub units-same : units (risks net) ≡ denominators net
  units-same = units-numbers bs rs legal.each

  pub exact_same : (cut : ℕ → Bool) → exact (risks net) cut ≡ (cut_off_chance net cut).top
  unfolding cut_off_chance
  exact_same cut =
      each-set-once (risks net) (λ z. cond (cut z) (weight (risks net) z) 0)
      ∙ ap (λ n. sum_below (2 ^ n) (λ z. cond (able_set (risks net) z) (cond (cut z) (weight (risks net) z) 0) 0)) (length-paired bs rs legal.each)
      ∙ sum_same (2 ^ length bs) _ _ (λ Z l.
      both-tests (able_set (risks net) Z) (cut Z) (weight (risks net) Z)
      ∙ ap₂ (λ a n. cond (a && cut Z) n 0) (able-numbers bs rs legal.each Z l) (weight-numbers bs rs legal.each Z))

  pub under_same : (cut : ℕ → Bool) → units (risks net) ≡ (cut_off_chance net cut).under
  unfolding cut_off_chance
  under_same cut = units-same
