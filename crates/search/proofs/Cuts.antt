-- Sides and minimal cuts correspond one to one.
use Rattle.std.proofs.Common.{◌≡◌, ℕ, ◌<◌, Bool, true, false, not, ◌&&◌, ◌||◌, ◌⊎◌, sym, refl, ap, ◌∙◌, inl, inr}
use Rattle.std.proofs.lemmas.Bool.{cases_Bool, and_parts, and_from, or_left, or_right, not-true, not_from_false, true≢false}
use Rattle.sets.specs.Masks.{has, collect, ◌∈◌, ◌∉◌}
use Rattle.network.specs.Meaning.{Net, Legal}
use Rattle.search.specs.Cuts.{Link, Ends, step, Cut, MinimalCut, branch, branches_of, ables, present, without}
use Rattle.search.specs.Search.{crossing}
use Rattle.sets.proofs.Members.{clash, refuted, certain, has-collect, collect-small, below-mask, same-mask}
use Rattle.search.proofs.Chains.{ends, append, back, moved, kept, leaves}
use Rattle.search.proofs.Links.{link_back, link-below, link_moved, able-present, present-cases}
use Rattle.search.proofs.Sides.{Side, out_of}

-- a test that is the same at both ends, or differs
level : (p a b : Bool) → a ≡ b → (p && ((a && not b) || (b && not a))) ≡ false
level true true true e = refl
level true true false e = absurd (true≢false e)
level true false true e = absurd (true≢false (sym e))
level true false false e = refl
level false a b e = refl

apart : (p a b : Bool) → (p && ((a && not b) || (b && not a))) ≡ true → (p ≡ true) × (((a ≡ true) × (b ≡ false)) ⊎ ((b ≡ true) × (a ≡ false)))
apart true true true e = absurd (true≢false (sym e))
apart true true false e = (refl, inl (refl, refl))
apart true false true e = (refl, inr (refl, refl))
apart true false false e = absurd (true≢false (sym e))
apart false a b e = absurd (true≢false (sym e))

-- the branches able to fail with exactly one end in K
abbrev pub cut_of : Net → ℕ → ℕ
cut_of net K = collect (branches_of net) (crossing net K)

module _ {net : Net} (legal : Legal net) where
  pub in_cut : (K k : ℕ) → k < branches_of net → crossing net K k ≡ true → k ∈ cut_of net K
  in_cut K k l h = has-collect (branches_of net) (crossing net K) k l ∙ h

  pub cut-crosses : (K k : ℕ) → k ∈ cut_of net K → (k < branches_of net) × (crossing net K k ≡ true)
  cut-crosses K k i =
      let l = below-mask (branches_of net) (cut_of net K) k (collect-small (branches_of net) (crossing net K)) i in
      (l, sym (has-collect (branches_of net) (crossing net K) k l) ∙ i)

  -- a branch both of whose ends lie on one side is not in the cut
  pub uncrossed : (K u v : ℕ) → has K u ≡ has K v → (r : Link net (present net) u v) → r.by ∉ cut_of net K
  unfolding crossing
  uncrossed K u v e r =
      has-collect (branches_of net) (crossing net K) r.by r.below
      ∙ level (ables net r.by) (has K (branch net r.by).from) (has K (branch net r.by).to) (elim r.ends [
        | inl q ↦ ap (has K) q.0 ∙ e ∙ sym (ap (has K) q.1)
        | inr q ↦ ap (has K) q.0 ∙ sym e ∙ sym (ap (has K) q.1)
      ])

  -- a branch of the cut, with the ends named
  pub crossed : (K k : ℕ) → k ∈ cut_of net K → (u : ℕ) × (v : ℕ) × (u ∈ K) × (v ∉ K) × Ends (branch net k) u v × (ables net k ≡ true)
  unfolding crossing
  crossed K k i =
      let p = apart (ables net k) (has K (branch net k).from) (has K (branch net k).to) (cut-crosses K k i).1 in
      elim p.1 [
        | inl q ↦ ((branch net k).from, (branch net k).to, q.0, q.1, inl (refl, refl), p.0)
        | inr q ↦ ((branch net k).to, (branch net k).from, q.0, q.1, inr (refl, refl), p.0)
      ]

  pub without-out : (Z : ℕ) (u v : ℕ) → (r : Link net (without net Z) u v) → (present net r.by ≡ true) × (r.by ∉ Z)
  without-out Z u v r =
      let p = and_parts (present net r.by) (not (has Z r.by)) r.is_kept in
      (p.0, not-true (has Z r.by) p.1)

  abbrev pub live_of : (Z u v : ℕ) → Link net (without net Z) u v → Link net (present net) u v
  live_of Z = link_moved net (without net Z) (present net) (λ k h. (and_parts (present net k) (not (has Z k)) h).0)

  abbrev pub unless : (Z u v : ℕ) → (r : Link net (present net) u v) → r.by ∉ Z → Link net (without net Z) u v
  unless Z u v r o = record { by = r.by; below = r.below; is_kept = and_from (present net r.by) (not (has Z r.by)) r.is_kept (not_from_false (has Z r.by) o); ends = r.ends }

  module _ {head door : ℕ} where
    -- a present branch that leads out of a side is in its cut
    pub leading-out : (K : ℕ) → Side net head door K → (u v : ℕ) → u ∈ K → v ∉ K → (r : Link net (present net) u v) → r.by ∈ cut_of net K
    unfolding crossing
    leading-out K s u v i o r = elim (present-cases (branch net r.by).condition r.is_kept) [
      | inl w ↦ absurd (clash o (s.firm u v i (record { by = r.by; below = r.below; is_kept = w; ends = r.ends })))
      | inr a ↦ in_cut K r.by r.below (and_from (ables net r.by) _ a (elim r.ends [
        | inl q ↦ or_left (has K (branch net r.by).from && not (has K (branch net r.by).to)) _
            (and_from _ _ (ap (has K) q.0 ∙ i) (not_from_false _ (ap (has K) q.1 ∙ o)))
        | inr q ↦ or_right _ (has K (branch net r.by).to && not (has K (branch net r.by).from))
            (and_from _ _ (ap (has K) q.1 ∙ i) (not_from_false _ (ap (has K) q.0 ∙ o)))
      ]))
    ]

    -- the cut of a side is minimal
    pub side_cut : (K : ℕ) → Side net head door K → MinimalCut net head door (cut_of net K)
    side_cut K s = record {
      cut = record {
        small = collect-small (branches_of net) (crossing net K);
        all_able = λ k i. (crossed K k i).5;
        apart = λ c.
            let l = leaves (has K) s.head_in s.door_out c in
            let p = without-out (cut_of net K) l.x l.y l.link in
            clash p.1 (leading-out K s l.x l.y l.in_x l.out_y (live_of (cut_of net K) l.x l.y l.link));
      };
      minimal = λ Y sub ne c. ne (same-mask (branches_of net) Y (cut_of net K) c.small (collect-small (branches_of net) (crossing net K)) (λ k _. each Y sub c k));
    }
      where
        clear : (Y : ℕ) → ((k : ℕ) → k ∈ Y → k ∈ cut_of net K) → (u v : ℕ) → has K u ≡ has K v → Link net (present net) u v → Link net (without net Y) u v
        clear Y sub u v e r = unless Y u v r (out_of Y (cut_of net K) r.by (sub r.by) (uncrossed K u v e r))

        each : (Y : ℕ) → ((k : ℕ) → k ∈ Y → k ∈ cut_of net K) → Cut net head door Y → (k : ℕ) → has Y k ≡ has (cut_of net K) k
        each Y sub c k = elim (cases_Bool (has (cut_of net K) k)) [
          | inr o ↦ out_of Y (cut_of net K) k (sub k) o ∙ sym o
          | inl i ↦ elim (cases_Bool (has Y k)) [
            | inl t ↦ t ∙ sym i
            | inr t ↦
                let (u, v, iu, ov, en, ab) = crossed K k i in
                let r : Link net (present net) u v = record { by = k; below = (cut-crosses K k i).0; is_kept = able-present (branch net k).condition ab; ends = en } in
                absurd (c.apart (append
                (back (link_back net (without net Y)) (moved (λ x y p q l. clear Y sub x y (p ∙ sym q) l) (λ _ _. tt) (s.rooted u v iu ov r)))
                (step tt (unless Y u v r t) (moved (λ x y p q l. clear Y sub x y (p ∙ sym q) l) (λ _ _. tt) (s.outer v (link-below legal (present net) u v r).1 ov)))))
          ]
        ]

    -- two sides with one cut are one
    within : (K L : ℕ) → Side net head door K → Side net head door L → cut_of net K ≡ cut_of net L → (x : ℕ) → x ∈ L → x ∈ K
    within K L s t e x i = certain (λ o. clash (ends (kept (λ y. y ∉ L) (λ u v p q r m. stay u v (p ∙ sym q) m r) t.door_out
        (back (link_back net (present net)) (s.outer x (below-mask net.nodes L x t.small i) o)))) i)
      where
        stay : (u v : ℕ) → has K u ≡ has K v → u ∉ L → Link net (present net) u v → v ∉ L
        stay u v q m r = refuted (λ j. clash (uncrossed K u v q r) (ap (λ Z. has Z r.by) e ∙ leading-out L t v u j m (link_back net (present net) u v r)))

    pub same-side : (K L : ℕ) → Side net head door K → Side net head door L → cut_of net K ≡ cut_of net L → K ≡ L
    same-side K L s t e = same-mask net.nodes K L s.small t.small (λ v _. elim (cases_Bool (has L v)) [
      | inl i ↦ within K L s t e v i ∙ sym i
      | inr o ↦ out_of K L v (within L K t s (sym e) v) o ∙ sym o
    ])
