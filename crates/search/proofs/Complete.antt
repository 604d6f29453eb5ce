-- Each minimal cut is the cut of a side.
use Rattle.std.proofs.Common.{◌≡◌, ℕ, ◌^◌, ◌<◌, not, ◌&&◌, eqb, sym, refl, ap, ◌∙◌, subst, inl, inr}
use Rattle.std.proofs.lemmas.Bool.{cases_Bool, and_parts, not-true, not-false, not_from_true, not_from_false, eqb-true, eq-eqb, and_cases}
use Rattle.sets.specs.Masks.{has, collect, ◌∈◌, ◌∉◌}
use Rattle.network.specs.Meaning.{Net, Legal}
use Rattle.search.specs.Cuts.{Link, Ends, Chain, Joined, Cut, MinimalCut, branch, branches_of, present, without}
use Rattle.search.specs.Search.{single, held, closure, crossing, spread, touches}
use Rattle.sets.proofs.Members.{clash, refuted, certain, has-collect, collect-small, below-mask, same-mask}
use Rattle.search.proofs.Singles.{single-in, single-out, single-small}
use Rattle.search.proofs.Chains.{ends, append, back, moved, kept, leaves}
use Rattle.search.proofs.Spread.{spread-small, spread-more, spread-closed, spread-chain}
use Rattle.search.proofs.Links.{held_more, held-chain, touches-out, touches-in, link_back, link-below, able-present, not-both, firm_live}
use Rattle.search.proofs.Sides.{Side, out_of, closure-side, closure-edge}
use Rattle.search.proofs.Cuts.{cut_of, cut-crosses, crossed, without-out, live_of, unless, leading-out}

-- Z without one of its branches
less : ℕ → ℕ → ℕ → ℕ
less b Z j = collect b (λ k. has Z k && not (eqb k j))

module _ (b Z j : ℕ) where
  less-small : less b Z j < 2 ^ b
  unfolding less
  less-small = collect-small b (λ k. has Z k && not (eqb k j))

  less-part : (k : ℕ) → k ∈ less b Z j → k ∈ Z
  unfolding less
  less-part k i = (and_parts (has Z k) (not (eqb k j)) (sym (has-collect b (λ k. has Z k && not (eqb k j)) k (below-mask b (less b Z j) k less-small i)) ∙ i)).0

  less_other : (k : ℕ) → k < b → k ∈ Z → k ∉ less b Z j → k ≡ j
  unfolding less
  less_other k l i o = elim (and_cases (has Z k) (not (eqb k j)) (sym (has-collect b (λ k. has Z k && not (eqb k j)) k l) ∙ o)) [
    | inl t ↦ absurd (clash t i)
    | inr t ↦ eqb-true k j (not-false (eqb k j) t)
  ]

  less-gone : j < b → j ∉ less b Z j
  unfolding less
  less-gone l = has-collect b (λ k. has Z k && not (eqb k j)) j l ∙ (refuted (λ t. clash (not-true (eqb j j) (and_parts (has Z j) (not (eqb j j)) t).1) (eq-eqb j j refl)))

-- the nodes joined to w once all of Z count as failed
part : Net → ℕ → ℕ → ℕ
part net Z w = spread net.nodes (touches net (without net Z)) net.nodes (single w)

-- all nodes but those still joined to the door
pub side-of : Net → ℕ → ℕ → ℕ
side-of net door Z = collect net.nodes (λ v. not (has (part net Z door) v))

module _ {net : Net} (legal : Legal net) where
  part-below : (Z w v : ℕ) → w < net.nodes → v ∈ part net Z w → v < net.nodes
  unfolding part
  part-below Z w v l i = below-mask net.nodes (part net Z w) v (spread-small net.nodes (touches net (without net Z)) net.nodes (single w) (single-small legal w l)) i

  part-closed : (Z w u v : ℕ) → u ∈ part net Z w → Link net (without net Z) u v → v ∈ part net Z w
  unfolding part
  part-closed Z w = spread-closed net.nodes (touches net (without net Z)) (Link net (without net Z)) (link-below legal (without net Z)) (touches-out net (without net Z)) (touches-in net (without net Z)) (single w)

  part-self : (Z w : ℕ) → w < net.nodes → w ∈ part net Z w
  unfolding part
  part-self Z w l = spread-more net.nodes (touches net (without net Z)) net.nodes (single w) w l (single-in legal w l)

  part-chain : (Z w v : ℕ) → v ∈ part net Z w → Chain (Link net (without net Z)) (λ x. x ∈ part net Z w) w v
  unfolding part
  part-chain Z w v i =
      let (u, j, c) = spread-chain net.nodes (touches net (without net Z)) (Link net (without net Z)) (link-below legal (without net Z)) (touches-out net (without net Z)) (touches-in net (without net Z)) net.nodes (single w) v i in
      subst (λ x. Chain (Link net (without net Z)) (λ y. y ∈ part net Z w) x v) (single-out w u j) c

  -- a branch that leads out of such a part is one of Z
  part_edge : (Z w u v : ℕ) → u ∈ part net Z w → v ∉ part net Z w → (r : Link net (present net) u v) → r.by ∈ Z
  part_edge Z w u v i o r = certain (λ t. clash o (part-closed Z w u v i (unless legal Z u v r t)))

  -- every cut holds the cut of a side
  module _ {head door : ℕ} (head_below : head < net.nodes) (door_below : door < net.nodes) (Z : ℕ) (c : Cut net head door Z) where
    abbrev H : ℕ
    H = part net Z head

    H-small : H < 2 ^ net.nodes
    unfolding part
    H-small = spread-small net.nodes (touches net (without net Z)) net.nodes (single head) (single-small legal head head_below)

    H-held : (v : ℕ) → v ∈ held net H → v ∈ H
    H-held v i =
        let (w, j, f) = held-chain legal H v i in
        ends (kept (λ x. x ∈ H) (λ x y _ _ r k. part-closed Z head x y k (unless legal Z x y (firm_live legal x y r)
        (refuted (λ t. not-both (branch net r.by).condition r.is_kept (c.all_able r.by t))))) j f)

    door-unheld : door ∉ held net H
    door-unheld = refuted (λ t. c.apart (moved (λ _ _ _ _ r. r) (λ _ _. tt) (part-chain Z head door (H-held door t))))

    pub inner : ℕ
    inner = closure net door (part net Z head)

    pub inner-side : Side net head door inner
    unfolding inner
    inner-side = closure-side legal door_below H H-small (part-self Z head head_below)
        (λ u v i o r. back (link_back net (present net)) (moved (λ x y _ _ q. live_of legal Z x y q) (λ _ p. p) (part-chain Z head u i))) door-unheld

    pub inner_cut : (k : ℕ) → k ∈ cut_of net inner → k ∈ Z
    unfolding inner
    inner_cut k i =
        let (u, v, iu, ov, en, ab) = crossed legal inner k i in
        let r : Link net (present net) u v = record { by = k; below = (cut-crosses legal inner k i).0; is_kept = able-present (branch net k).condition ab; ends = en } in
        let e = closure-edge legal door_below H H-small door-unheld u v iu ov r in
        part_edge Z head u v (H-held u e.0) (out_of H (held net H) v (held_more legal H v (link-below legal (present net) u v r).1) e.1) r

  module _ {head door : ℕ} (head_below : head < net.nodes) (door_below : door < net.nodes) (Z : ℕ) (m : MinimalCut net head door Z) where
    abbrev D : ℕ
    D = part net Z door

    abbrev K : ℕ
    K = side-of net door Z

    has-side : (v : ℕ) → v < net.nodes → has K v ≡ not (has D v)
    unfolding side-of
    has-side v l = has-collect net.nodes (λ v. not (has (part net Z door) v)) v l

    side-small : K < 2 ^ net.nodes
    unfolding side-of
    side-small = collect-small net.nodes (λ v. not (has (part net Z door) v))

    side-in : (v : ℕ) → v < net.nodes → v ∉ D → v ∈ K
    side-in v l o = has-side v l ∙ not_from_false (has D v) o

    side-out : (v : ℕ) → v < net.nodes → v ∈ D → v ∉ K
    side-out v l i = has-side v l ∙ not_from_true (has D v) i

    in-side : (v : ℕ) → v ∈ K → v ∉ D
    in-side v i = not-true (has D v) (sym (has-side v (below-mask net.nodes K v side-small i)) ∙ i)

    out-side : (v : ℕ) → v < net.nodes → v ∉ K → v ∈ D
    out-side v l o = not-false (has D v) (sym (has-side v l) ∙ o)

    to-door : (v : ℕ) → v ∈ D → Chain (Link net (without net Z)) (λ x. x ∈ D) v door
    to-door v i = back (link_back net (without net Z)) (part-chain Z door v i)

    -- the head's part and the door's have no node in common
    disjoint : (v : ℕ) → v ∈ part net Z head → v ∈ D → ⊥
    disjoint v i j = m.cut.apart (append (moved (λ _ _ _ _ r. r) (λ _ _. tt) (part-chain Z head v i)) (moved (λ _ _ _ _ r. r) (λ _ _. tt) (to-door v j)))

    -- a branch between the side and the rest is one of Z
    side-edge : (u v : ℕ) → u ∈ K → v ∉ K → (r : Link net (present net) u v) → r.by ∈ Z
    side-edge u v i o r = part_edge Z door v u (out-side v (link-below legal (present net) u v r).1 o) (in-side u i) (link_back net (present net) u v r)

    -- no branch of Z can be spared
    needed : (j : ℕ) → j ∈ Z → (Joined net (without net (less (branches_of net) Z j)) head door → ⊥) → ⊥
    needed j i a =
        let l = below-mask (branches_of net) Z j m.cut.small i in
        m.minimal (less (branches_of net) Z j) (less-part (branches_of net) Z j)
        (λ e. clash (ap (λ Y. has Y j) (sym e) ∙ less-gone (branches_of net) Z j l) i)
        (record { small = less-small (branches_of net) Z j; all_able = λ k q. m.cut.all_able k (less-part (branches_of net) Z j k q); apart = a })

    -- each branch between the side and the rest has its inner end in the head's part
    from-head : (u v : ℕ) → u ∈ K → v ∉ K → Link net (present net) u v → u ∈ part net Z head
    from-head u v i o r = certain (λ t. needed r.by (side-edge u v i o r) (λ c.
        let l = leaves (has (part net Z head)) (part-self Z head head_below) (out_of (part net Z head) K door (λ h. absurd (disjoint door h door-in)) (side-out door door_below door-in)) c in
        let w = without-out legal (less (branches_of net) Z r.by) l.x l.y l.link in
        let q = live_of legal (less (branches_of net) Z r.by) l.x l.y l.link in
        let e = less_other (branches_of net) Z r.by l.link.by l.link.below (part_edge Z head l.x l.y l.in_x l.out_y q) w.1 in
        meet l.x l.y l.in_x t (subst (λ k. Ends (branch net k) l.x l.y) e l.link.ends) r.ends))
      where
        door-in : door ∈ D
        door-in = part-self Z door door_below

        v-in : v ∈ D
        v-in = out-side v (link-below legal (present net) u v r).1 o

        meet : (x y : ℕ) → x ∈ part net Z head → u ∉ part net Z head → Ends (branch net r.by) x y → Ends (branch net r.by) u v → ⊥
        meet x y a n (inl p) (inl q) = clash n (ap (has (part net Z head)) (sym q.0 ∙ p.0) ∙ a)
        meet x y a n (inl p) (inr q) = disjoint v (ap (has (part net Z head)) (sym q.0 ∙ p.0) ∙ a) v-in
        meet x y a n (inr p) (inl q) = disjoint v (ap (has (part net Z head)) (sym q.1 ∙ p.1) ∙ a) v-in
        meet x y a n (inr p) (inr q) = clash n (ap (has (part net Z head)) (sym q.1 ∙ p.1) ∙ a)

    head_in : head ∈ K
    head_in = side-in head head_below (refuted (λ t. disjoint head (part-self Z head head_below) t))

    door_out : door ∉ K
    door_out = side-out door door_below (part-self Z door door_below)

    pub is-side : Side net head door K
    is-side = record {
      small = side-small;
      head_in = head_in;
      door_out = door_out;
      firm = λ u v i r. certain (λ t. not-both (branch net r.by).condition r.is_kept (m.cut.all_able r.by (side-edge u v i t (firm_live legal u v r))));
      outer = λ v l o. moved (λ x y _ _ r. live_of legal Z x y r) (λ x i. side-out x (part-below Z door x door_below i) i) (to-door v (out-side v l o));
      rooted = λ u v i o r. back (link_back net (present net)) (moved (λ x y _ _ q. live_of legal Z x y q)
          (λ x h. side-in x (part-below Z head x head_below h) (refuted (λ t. disjoint x h t)))
          (part-chain Z head u (from-head u v i o r)));
    }

    pub is_cut : cut_of net K ≡ Z
    is_cut = same-mask (branches_of net) (cut_of net K) Z (collect-small (branches_of net) (crossing net K)) m.cut.small (λ k _. elim (cases_Bool (has Z k)) [
      | inr o ↦ out_of (cut_of net K) Z k (given k) o ∙ sym o
      | inl i ↦ elim (cases_Bool (has (cut_of net K) k)) [ inl t ↦ t ∙ sym i | inr t ↦ absurd (needed k i (spared k t)) ]
    ])
      where
        given : (k : ℕ) → k ∈ cut_of net K → k ∈ Z
        given k i =
            let (u, v, iu, ov, en, ab) = crossed legal K k i in
            side-edge u v iu ov (record { by = k; below = (cut-crosses legal K k i).0; is_kept = able-present (branch net k).condition ab; ends = en })

        spared : (k : ℕ) → k ∉ cut_of net K → Joined net (without net (less (branches_of net) Z k)) head door → ⊥
        spared k o c =
            let l = leaves (has K) head_in door_out c in
            let w = without-out legal (less (branches_of net) Z k) l.x l.y l.link in
            let q = live_of legal (less (branches_of net) Z k) l.x l.y l.link in
            let e = less_other (branches_of net) Z k l.link.by l.link.below (side-edge l.x l.y l.in_x l.out_y q) w.1 in
            clash o (subst (λ j. j ∈ cut_of net K) e (leading-out legal K is-side l.x l.y l.in_x l.out_y q))
