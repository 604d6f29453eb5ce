-- What `spread` reaches: each number with a chain to it, and all of them.
use Rattle.std.proofs.Common.{◌≡◌, ℕ, zero, suc, ◌+◌, ◌^◌, ◌<◌, ◌≤◌, Bool, true, ◌||◌, ◌⊎◌, sym, refl, ◌∙◌, inl, inr, arith}
use Rattle.std.proofs.lemmas.Bool.{cases_lt, or_cases, or_left, or_right}
use Rattle.sets.specs.Masks.{count, has, ◌∈◌}
use Rattle.search.specs.Cuts.{Chain, here, step}
use Rattle.search.specs.Search.{widened, spread}
use Rattle.search.proofs.Chains.{ends, kept}
use Rattle.sets.proofs.Members.{has-collect, collect-small, below-mask, count-max, count-back}

module _ (n : ℕ) (near : ℕ → ℕ → Bool) where
  pub widened_small : (S : ℕ) → widened n near S < 2 ^ n
  unfolding widened
  widened_small S = collect-small n (λ v. has S v || near S v)

  pub widened_more : (S v : ℕ) → v < n → v ∈ S → v ∈ widened n near S
  unfolding widened
  widened_more S v l h = has-collect n (λ v. has S v || near S v) v l ∙ or_left (has S v) (near S v) h

  widened-near : (S v : ℕ) → v < n → near S v ≡ true → v ∈ widened n near S
  unfolding widened
  widened-near S v l h = has-collect n (λ v. has S v || near S v) v l ∙ or_right (has S v) (near S v) h

  widened-cases : (S v : ℕ) → v ∈ widened n near S → (v ∈ S) ⊎ (near S v ≡ true)
  unfolding widened
  widened-cases S v h =
      let l = below-mask n (widened n near S) v (widened_small S) h in
      or_cases (has S v) (near S v) (sym (has-collect n (λ v. has S v || near S v) v l) ∙ h)

  pub spread-small : (r S : ℕ) → S < 2 ^ n → spread n near r S < 2 ^ n
  unfolding spread
  spread-small zero S s = s
  spread-small (suc r) S s = spread-small r (widened n near S) (widened_small S)

  pub spread-more : (r S v : ℕ) → v < n → v ∈ S → v ∈ spread n near r S
  unfolding spread
  spread-more zero S v l h = h
  spread-more (suc r) S v l h = spread-more r (widened n near S) v l (widened_more S v l h)

  module _ (R : ℕ → ℕ → Type 0) (bounded : (u v : ℕ) → R u v → (u < n) × (v < n))
      (near-out : (S v : ℕ) → near S v ≡ true → (u : ℕ) × (u ∈ S) × R u v)
      (near-in : (S u v : ℕ) → u ∈ S → R u v → near S v ≡ true) where
    abbrev pub Closed : ℕ → Type 0
    Closed S = (u v : ℕ) → u ∈ S → R u v → v ∈ S

    widened-closed : (S : ℕ) → Closed S → Closed (widened n near S)
    widened-closed S c u v i r = elim (widened-cases S u i) [
      | inl h ↦ widened_more S v (bounded u v r).1 (c u v h r)
      | inr h ↦ let t = near-out S u h in widened_more S v (bounded u v r).1 (c u v (c t.0 u t.1 t.2) r)
    ]

    spread-stays : (r S : ℕ) → Closed S → Closed (spread n near r S)
    unfolding spread
    spread-stays zero S c = c
    spread-stays (suc r) S c = spread-stays r (widened n near S) (widened-closed S c)

    -- where nothing was added, nothing is near
    stopped : (S : ℕ) → count n (has (widened n near S)) ≤ count n (has S) → Closed S
    stopped S h u v i r = count-back n (has S) (has (widened n near S)) (widened_more S) h v (bounded u v r).1 (widened-near S v (bounded u v r).1 (near-in S u v i r))

    rounds : (r S : ℕ) → Closed (spread n near r S) ⊎ (r + count n (has S) ≤ count n (has (spread n near r S)))
    unfolding spread
    rounds zero S = inr (omega arith)
    rounds (suc r) S = elim (cases_lt (count n (has S)) (count n (has (widened n near S)))) [
      | inl l ↦ elim (rounds r (widened n near S)) [ inl c ↦ inl c | inr k ↦ inr (omega arith) ]
      | inr k ↦ inl (spread-stays r (widened n near S) (widened-closed S (stopped S k)))
    ]

    pub spread-closed : (S : ℕ) → Closed (spread n near n S)
    spread-closed S u v i r = elim (rounds n S) [
      | inl c ↦ c u v i r
      | inr k ↦ count-back n (has (spread n near n S)) (λ _. true) (λ _ _ _. refl) (let m = count-max n (λ _. true) in omega arith) v (bounded u v r).1 refl
    ]

    -- each member has a chain from one that was there at first
    pub spread-chain : (r S v : ℕ) → v ∈ spread n near r S → (u : ℕ) × (u ∈ S) × Chain R (λ x. x ∈ spread n near r S) u v
    unfolding spread
    spread-chain zero S v h = (v, h, here h)
    spread-chain (suc r) S v h =
        let (u, i, c) = spread-chain r (widened n near S) v h in
        elim (widened-cases S u i) [
          | inl j ↦ (u, j, c)
          | inr j ↦
              let (t, k, l) = near-out S u j in
              (t, k, step (spread-more r (widened n near S) t (bounded t u l).0 (widened_more S t (bounded t u l).0 k)) l c)
        ]

    -- every closed set that has all of S has all that is reached
    pub spread-least : (r S T : ℕ) → ((v : ℕ) → v ∈ S → v ∈ T) → Closed T → (v : ℕ) → v ∈ spread n near r S → v ∈ T
    spread-least r S T h c v i = let (u, j, p) = spread-chain r S v i in ends (kept (λ x. x ∈ T) (λ x y _ _ l k. c x y k l) (h u j) p)
