-- The test by reachability tells what a cut is, and meets what the bounds ask of it.
use Rattle.std.proofs.Common.{◌≡◌, ℕ, zero, suc, ◌/◌, ◌^◌, ◌<◌, Bool, true, false, not, ◌&&◌, ◌||◌, Decides, sym, refl, ap, ◌∙◌, inl, inr, arith}
use Rattle.std.proofs.lemmas.List.{get_or_past}
use Rattle.std.proofs.lemmas.Bool.{cases_lt, and_parts, and_from, not-true, not_from_false}
use Rattle.sets.specs.Masks.{has, ◌∈◌}
use Rattle.sets.proofs.Members.{clash, refuted, below-mask, same-mask, has-none, has-suc}
use Rattle.network.specs.declared.branch.Branch.{Branch}
use Rattle.network.specs.declared.branch.Condition.{Condition}
use Rattle.network.specs.declared.branch.Condition.TheVariants.{Able, Failed, Working}
use Rattle.network.specs.Meaning.{RatedNet, Legal}
use Rattle.search.specs.Cuts.{branch, branches_of, is_able, ables, without, Cut}
use Rattle.search.specs.Search.{linked}
use Rattle.search.proofs.Portions.{linked-joined, joined-linked, larger-cuts}
use Rattle.chance.specs.CutOff.{can_fail, able, AbleSet, every, able_set}
use Rattle.chance.specs.Bracket.{Grows}
use Rattle.engine.specs.SoundRuns.{parts}

every-at : (n : ℕ) (f : ℕ → Bool) → every n f ≡ true → (k : ℕ) → k < n → f k ≡ true
unfolding every
every-at zero f e k l = absurd (omega arith)
every-at (suc n) f e zero l = (and_parts (f 0) (every n (λ k. f (suc k))) e).0
every-at (suc n) f e (suc k) l = every-at n (λ k. f (suc k)) (and_parts (f 0) (every n (λ k. f (suc k))) e).1 k (omega arith)

every-from : (n : ℕ) (f : ℕ → Bool) → ((k : ℕ) → k < n → f k ≡ true) → every n f ≡ true
unfolding every
every-from zero f h = refl
every-from (suc n) f h = and_from (f 0) (every n (λ k. f (suc k))) (h 0 (omega arith)) (every-from n (λ k. f (suc k)) (λ k l. h (suc k) (omega arith)))

implies-at : (a b : Bool) → (not a || b) ≡ true → a ≡ true → b ≡ true
implies-at true b h t = h
implies-at false b h t = absurd (clash refl t)

implies-from : (a b : Bool) → (a ≡ true → b ≡ true) → (not a || b) ≡ true
implies-from true b h = h refl
implies-from false b h = refl

lt-pow : (n : ℕ) → n < 2 ^ n
lt-pow zero = omega arith
lt-pow (suc n) = omega (arith, lt-pow n)

-- a set whose members are below n
small-from-members : (n z : ℕ) → ((k : ℕ) → k ∈ z → k < n) → z < 2 ^ n
small-from-members zero z h =
    let e = same-mask z z 0 (lt-pow z) (omega (arith, lt-pow z)) (λ v _. refuted (λ i. let l = h v i in omega arith) ∙ sym (has-none v)) in omega arith
small-from-members (suc n) z h = let l = small-from-members n (z / 2) (λ k i. let m = h (suc k) (has-suc z k ∙ i) in omega arith) in omega arith

able-same : (c : Condition) → can_fail c ≡ is_able c
able-same Able = refl
able-same Failed = refl
able-same Working = refl

module _ (net : RatedNet) where
  able-is : (k : ℕ) → able net k ≡ ables net.plain k
  able-is k = able-same (branch net.plain k).condition

  able-below : (k : ℕ) → able net k ≡ true → k < branches_of net.plain
  able-below k t = elim (cases_lt k (branches_of net.plain)) [
    | inl l ↦ l
    | inr m ↦ absurd (clash (ap (λ (b : Branch). can_fail b.condition) (get_or_past net.plain.branches k _ m)) t)
  ]

  module _ (legal : Legal net.plain) (head door : ℕ) (below : head < net.plain.nodes) where
    pub cut-from : (Z : ℕ) → AbleSet net Z → parts net head door Z ≡ true → Cut net.plain head door Z
    cut-from Z a t = record {
      small = small-from-members (branches_of net.plain) Z (λ k i. able-below k (a k i));
      all_able = λ k i. sym (able-is k) ∙ a k i;
      apart = λ c. clash (not-true (linked net.plain (without net.plain Z) head door) t) (joined-linked net.plain legal (without net.plain Z) head below door c);
    }

    pub cut-able : (Z : ℕ) → Cut net.plain head door Z → AbleSet net Z
    cut-able Z c k i = able-is k ∙ c.all_able k i

    pub cut_parts : (Z : ℕ) → Cut net.plain head door Z → parts net head door Z ≡ true
    cut_parts Z c =
        not_from_false (linked net.plain (without net.plain Z) head door) (refuted (λ t. c.apart (linked-joined net.plain legal (without net.plain Z) head door t)))

    pub grows : Grows net (parts net head door)
    grows Y Z p q w t =
        cut_parts Z (larger-cuts net.plain head door Y Z (cut-from Y p t) w
        (small-from-members (branches_of net.plain) Z (λ k i. able-below k (q k i))) (λ k i. sym (able-is k) ∙ q k i))

    pub tells-cuts : (Z : ℕ) → Z < 2 ^ branches_of net.plain → Decides (able_set net Z && parts net head door Z) (Cut net.plain head door Z)
    tells-cuts Z small = (
      λ t.
          let (e, a) = and_parts (able_set net Z) (parts net head door Z) t in
          cut-from Z (λ k i. implies-at (has Z k) (able net k) (every-at (branches_of net.plain) (λ k. not (has Z k) || able net k) e k (below-mask (branches_of net.plain) Z k small i)) i) a,
      λ c.
          and_from (able_set net Z) (parts net head door Z)
          (every-from (branches_of net.plain) (λ k. not (has Z k) || able net k) (λ k _. implies-from (has Z k) (able net k) (cut-able Z c k))) (cut_parts Z c),
    )
