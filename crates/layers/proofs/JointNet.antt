-- Two networks joined at a node.
use Rattle.std.proofs.Common.{◌≡◌, ℕ, ◌-◌, ◌<◌, ◌≤◌, true, false, map, length, None, sym, refl, ap, ◌∙◌, ap₂, arith}
use Rattle.std.specs.List.{slice_get}
use Rattle.std.proofs.lemmas.Bool.{cond-true, cond-false}
use Rattle.network.specs.Meaning.{Net, RatedNet, LegalRated}
use Rattle.layers.specs.Meaning.{moved, joint_fits, joint_net, joint_rated}
use Rattle.sets.proofs.Nth.{nth-append-left, nth-append-right}

pub nth-joint-none : (j : ℕ) (p q : Net) (k : ℕ) → false ≡ joint_fits j p q → None ≡ slice_get (joint_net j p q).branches k
nth-joint-none j p q k apart = rw (cond-false _ _ _ (sym apart)) refl

module _ (j : ℕ) (p q : Net) (fits : true ≡ joint_fits j p q) where
  pub nth-joint-first : (k : ℕ) → k < length p.branches → slice_get p.branches k ≡ slice_get (joint_net j p q).branches k
  nth-joint-first k h = rw (cond-true _ _ _ (sym fits)) (sym (nth-append-left p.branches _ k h))

  pub nth-joint-second : (k n m : ℕ) → m ≡ length p.branches → m ≤ k → n ≡ p.nodes → slice_get (map (moved n j) q.branches) (k - m) ≡ slice_get (joint_net j p q).branches k
  nth-joint-second k n m em h en =
      rw (cond-true _ _ _ (sym fits), em, en) (sym (nth-append-right p.branches _ k (omega arith)))

-- the ratings, by the two networks as `Network` tells them
module _ (j : ℕ) (p q : RatedNet) (np nq : Net) (sp : p.plain ≡ np) (sq : q.plain ≡ nq) where
  same-fits : joint_fits j p.plain q.plain ≡ joint_fits j np nq
  same-fits = ap₂ (joint_fits j) sp sq

  count : LegalRated p → length p.ratings ≡ length np.branches
  count hp = hp.each ∙ ap (λ n. length n.branches) sp

  pub nth-rated-none : false ≡ joint_fits j np nq → (k : ℕ) → None ≡ slice_get (joint_rated j p q).ratings k
  nth-rated-none apart k = rw (cond-false _ _ _ (same-fits ∙ sym apart)) refl

  pub nth-rated-first : LegalRated p → true ≡ joint_fits j np nq → (k m : ℕ) → m ≡ length np.branches → k < m → slice_get p.ratings k ≡ slice_get (joint_rated j p q).ratings k
  nth-rated-first hp fits k m em h =
      rw (cond-true _ _ _ (same-fits ∙ sym fits)) (sym (nth-append-left p.ratings q.ratings k (omega (arith, count hp))))

  pub nth-rated-second : LegalRated p → true ≡ joint_fits j np nq → (k m : ℕ) → m ≡ length np.branches → m ≤ k → slice_get q.ratings (k - m) ≡ slice_get (joint_rated j p q).ratings k
  nth-rated-second hp fits k m em h =
      rw (cond-true _ _ _ (same-fits ∙ sym fits), em, ← count hp) (sym (nth-append-right p.ratings q.ratings k (omega (arith, count hp))))
