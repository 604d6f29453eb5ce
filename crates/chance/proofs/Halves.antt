-- A product over the chosen ratings, taken one branch and half the set at a time.
use Rattle.std.proofs.Common.{◌≡◌, ℕ, suc, ◌/◌, Bool, true, false, cond, List, [], ◌∷◌, fold, refl, ◌∙◌, ap₂}
use Rattle.sets.specs.Masks.{has}
use Rattle.sets.proofs.Members.{has-suc, has-zero}
use Rattle.network.specs.declared.rating.Rating.{Rating}
use Rattle.scale.specs.Arithmetic.{Arithmetic}
use Rattle.chance.specs.Bounds.{chosen, product_down, product_up}
use Rattle.chance.proofs.OverSets.{first, halved}

chosen-half : (set k : ℕ) (rs : List Rating) → chosen set (suc k) rs ≡ chosen (set / 2) k rs
unfolding chosen
chosen-half set k [] = refl
chosen-half set k (r ∷ rs) = ap₂ (λ b zs. cond b (r ∷ zs) zs) (has-suc set k) (chosen-half set (suc k) rs)

module _ {Num : Type 0} (f : Num → Rating → Num) where
  folded-cond : (b : Bool) (n : Num) (r : Rating) (rs : List Rating) → fold f n (cond b (r ∷ rs) rs) ≡ fold f (cond b (f n r) n) rs
  folded-cond true n r rs = refl
  folded-cond false n r rs = refl

  folded-halved : (n : Num) (rs : List Rating) (set : ℕ) → fold f n (chosen set 0 rs) ≡ halved f n rs set
  unfolding chosen halved
  folded-halved n [] set = refl
  folded-halved n (r ∷ rs) set =
      folded-cond (has set 0) n r (chosen set 1 rs)
      ∙ ap₂ (λ b zs. fold f (cond b (f n r) n) zs) (has-zero set) (chosen-half set 0 rs)
      ∙ folded-halved (cond (first set) (f n r) n) rs (set / 2)

module _ {Num : Type 0} (s : Arithmetic Num) (rs : List Rating) (set : ℕ) where
  pub down-halved : product_down s rs set ≡ halved s.times_down s.one rs set
  unfolding product_down
  down-halved = folded-halved s.times_down s.one rs set

  pub up-halved : product_up s rs set ≡ halved s.times_up s.one rs set
  unfolding product_up
  up-halved = folded-halved s.times_up s.one rs set
