-- One cut for several doors.
use Rattle.std.proofs.Common.{◌≡◌, ℕ, ◌<◌, ◌≤◌, not, sym, ap, ◌∙◌, subst, inl, inr, arith}
use Rattle.std.proofs.lemmas.Bool.{cases_Bool, cases_lt, not-true, not_from_false}
use Rattle.search.specs.declared.row.Row.{Row}
use Rattle.sets.specs.Masks.{has, least, ◌∈◌}
use Rattle.network.specs.Meaning.{Net, Legal}
use Rattle.search.specs.Cuts.{Link, Joined, MinimalCut, present}
use Rattle.search.specs.Search.{row_at, branch_set, node_vector, aimed, run}
use Rattle.search.specs.Statement.{VectorsTell, LowestDoor}
use Rattle.sets.proofs.Members.{clash, certain, has-collect, least-is}
use Rattle.search.proofs.Chains.{ends, append, back, moved, kept, leaves}
use Rattle.search.proofs.Links.{link_back, link-below}
use Rattle.search.proofs.Sides.{Side, side-moves}
use Rattle.search.proofs.Cuts.{cut_of, uncrossed, leading-out, side_cut, same-side}
use Rattle.search.proofs.Complete.{side-of, is-side, is_cut}
use Rattle.search.proofs.Sound.{start, always, good_at}

module _ {net : Net} (legal : Legal net) {head : ℕ} where
  -- a link that stays on one side of K stays within L, where the two have one cut
  stays : {d : ℕ} (K L : ℕ) → Side net head d L → cut_of net K ≡ cut_of net L → (u v : ℕ) → has K u ≡ has K v → Link net (present net) u v → u ∈ L → v ∈ L
  stays K L s e u v q r i = certain (λ o. clash (uncrossed legal K u v q r) (ap (λ Z. has Z r.by) e ∙ leading-out legal L s u v i o r))

  -- sides of two doors with one cut are one
  one_side : {d x : ℕ} (K L : ℕ) → d < net.nodes → Side net head d K → Side net head x L → cut_of net K ≡ cut_of net L → Joined net (present net) head d → K ≡ L
  one_side {d} K L b s t e c = elim (cases_Bool (has L d)) [
    | inr o ↦ same-side legal K L s (side-moves net head _ L d t b o) e
    | inl i ↦
        let l = leaves (has K) s.head_in s.door_out c in
        let p = ends (kept (λ z. z ∈ L) (λ u v a b r j. stays K L t e u v (a ∙ sym b) r j) t.head_in (back (link_back net (present net)) (s.rooted l.x l.y l.in_x l.out_y l.link))) in
        let q = ends (kept (λ z. z ∈ L) (λ u v a b r j. stays K L t e u v (a ∙ sym b) r j) i (back (link_back net (present net)) (s.outer l.y (link-below legal (present net) l.x l.y l.link).1 l.out_y))) in
        absurd (clash (uncrossed legal L l.x l.y (p ∙ sym q) l.link) (ap (λ Z. has Z l.link.by) (sym e) ∙ leading-out legal K s l.x l.y l.in_x l.out_y l.link))
  ]

has-vector : (net : Net) (r : Row) (x : ℕ) → x < net.nodes → has (node_vector net r) x ≡ not (has r.inside x)
unfolding node_vector
has-vector net r x l = has-collect net.nodes (λ v. not (has r.inside v)) x l

pub vectors-tell : VectorsTell
unfolding branch_set
vectors-tell net head door legal aim k i l x to =
    let s = run net door k (aimed net head door) in
    let g = good_at legal aim s (always legal aim k (aimed net head door) (start legal aim)) i l in
    let r = row_at s.rows i in (
      λ h. side_cut legal r.inside (side-moves net head door r.inside x g.side to.door_below (not-true (has r.inside x) (sym (has-vector net r x to.door_below) ∙ h))),
      λ m.
          let L = side-of net x (cut_of net r.inside) in
          let t = is-side legal to.head_below to.door_below (cut_of net r.inside) m in
          let e = one_side legal r.inside L aim.door_below g.side t (sym (is_cut legal to.head_below to.door_below (cut_of net r.inside) m)) aim.joined in
          has-vector net r x to.door_below ∙ not_from_false (has r.inside x) (ap (λ K. has K x) e ∙ t.door_out),
    )

pub lowest-door : LowestDoor
lowest-door net head x Z legal aim m =
    let K = side-of net x Z in
    let s = is-side legal aim.head_below aim.door_below Z m in
    let p = least-is net.nodes (λ v. not (has K v)) in
    let y = least net.nodes (λ v. not (has K v)) in
    let le : y ≤ x = elim (cases_lt x y) [ inr q ↦ q | inl q ↦ absurd (clash (p.before x q) (not_from_false (has K x) s.door_out)) ] in
    let b : y < net.nodes = let q = aim.door_below in omega arith in
    let o = not-true (has K y) (p.passes b) in
    let t = side-moves net head x K y s b o in (
      y,
      le,
      record {
        head_below = aim.head_below;
        door_below = b;
        other = λ e. clash o (subst (λ v. v ∈ K) e s.head_in);
        joined = append aim.joined (back (link_back net (present net)) (moved (λ _ _ _ _ r. r) (λ _ _. tt) (s.outer y b o)));
        unsure = λ c. clash o (ends (kept (λ v. v ∈ K) (λ u v _ _ r i. s.firm u v i r) s.head_in c));
      },
      subst (MinimalCut net head y) (is_cut legal aim.head_below aim.door_below Z m) (side_cut legal K t),
      λ v l n a.
          let L = side-of net v Z in
          let q = is-side legal a.head_below a.door_below Z n in
          let e = one_side legal L K a.door_below q s (is_cut legal a.head_below a.door_below Z n ∙ sym (is_cut legal aim.head_below aim.door_below Z m)) a.joined in
          clash (p.before v l) (not_from_false (has K v) (ap (λ S. has S v) (sym e) ∙ q.door_out)),
    )
