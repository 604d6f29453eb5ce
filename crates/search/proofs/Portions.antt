-- What follows of closures, of chains and of portions of a search.
use Rattle.std.proofs.Common.{◌≡◌, ℕ, zero, suc, ◌+◌, ◌<◌, Bool, true, not, ◌⊎◌, List, ◌++◌, length, get_or, set, sym, refl, ap, ◌∙◌, subst, inl, inr, suc-add, zero-add, arith, length-append, length-set}
use Rattle.std.proofs.lemmas.List.{get_or_append_left, get_or-set_same, get_or-set_other}
use Rattle.std.proofs.lemmas.Bool.{cases_eq, and_parts, and_from, not-true, not_from_false}
use Rattle.search.specs.declared.row.Row.{Row}
use Rattle.search.specs.declared.status.Status.{Status}
use Rattle.search.specs.declared.status.Status.TheVariants.{Finished, Full, More}
use Rattle.sets.specs.Masks.{has, collect, ◌∈◌, ◌∉◌}
use Rattle.network.specs.Meaning.{Net, Legal}
use Rattle.search.specs.Cuts.{Link, Joined, Cut, sure, present, without}
use Rattle.search.specs.Search.{single, Search, touches, held, closure, crossing, branch_set, row_at, current, barring, written, tried, next, run, status, linked}
use Rattle.search.specs.Statement.{Aim, LinkedTells, LargerCuts, Held, ClosureCloses, Keeps, RunKeeps, RunAdds, RunCounts, EitherEnd}
use Rattle.sets.proofs.Members.{clash, refuted, below-mask}
use Rattle.search.proofs.Singles.{single-in, single-out}
use Rattle.search.proofs.Chains.{ends, back, moved, kept}
use Rattle.search.proofs.Spread.{spread-more, spread-closed, spread-chain}
use Rattle.search.proofs.Links.{touches-out, touches-in, link_back, link_moved, link-below, held_more, held-firm, held-chain, closure-small, closure-all, closure-none, closure-in}
use Rattle.search.proofs.Sides.{out_of}
use Rattle.search.proofs.Sound.{by-status, search-sound}

pub closure-closes : ClosureCloses
closure-closes net door J legal l s = record {
  nodes_only = closure-small legal l J;
  with_door = λ h v k. closure-all legal l J v (is_held door h) k;
  kept_off = λ n v i c. closure-none legal l J v (not-held door n) (below-mask net.nodes (closure net door J) v (closure-small legal l J) i) i
      (moved (λ _ _ _ _ r. r) not-held c);
  closed_in = λ n v k h. closure-in legal l J v k (λ c. h (moved (λ _ _ _ _ r. r) (λ x o q. clash o (is_held x q)) c));
}
  where
    is_held : (v : ℕ) → Held net J v → v ∈ held net J
    is_held v (u, i, c) = ends (kept (λ x. x ∈ held net J) (λ x y _ _ r k. held-firm legal J x y k r) (held_more legal J u (below-mask net.nodes J u s i) i) c)

    not-held : (v : ℕ) → (Held net J v → ⊥) → v ∉ held net J
    not-held v n = refuted (λ t. let (u, i, c) = held-chain legal J v t in n (u, i, moved (λ _ _ _ _ r. r) (λ _ _. tt) c))

pub run-adds : RunAdds
unfolding run
run-adds net door zero k s = ap (λ n. run net door n s) (zero-add k)
run-adds net door (suc j) k s = ap (λ n. run net door n s) (suc-add j k) ∙ run-adds net door j k (next net door s)

-- a search that stands stays
pub stands : (net : Net) (door k : ℕ) (s : Search) → (status net door s.rows ≡ More → ⊥) → run net door k s ≡ s
unfolding run
stands net door zero s n = refl
stands net door (suc k) s n = ap (run net door k) (by-status (λ t. t ≡ s) net door s (λ e. absurd (n e)) refl) ∙ stands net door k s n

pub run-counts : RunCounts
unfolding run next
run-counts net door zero s = inl (omega arith)
run-counts net door (suc k) s = go (status net door s.rows) refl (run-counts net door k)
  where
    made : Search
    made = record { rows = tried net door s.rows; tries = s.tries + 1 }

    Counts : Search → Type 0
    Counts t = (t.tries ≡ s.tries + suc k) ⊎ ((t.tries < s.tries + suc k) × (status net door t.rows ≡ More → ⊥))

    halted : (status net door s.rows ≡ More → ⊥) → Counts (run net door k s)
    halted n = subst Counts (sym (stands net door k s n)) (inr (omega arith, n))

    go : (t : Status) → status net door s.rows ≡ t
        → ((u : Search) → ((run net door k u).tries ≡ u.tries + k) ⊎ (((run net door k u).tries < u.tries + k) × (status net door (run net door k u).rows ≡ More → ⊥)))
        → Counts (run net door k (elim t [ Finished ↦ s | Full ↦ s | More ↦ made ]))
    go Finished e h = halted (λ m. cc)
    go Full e h = halted (λ m. cc)
    go More e h = elim (h made) [ inl p ↦ inl (omega arith) | inr (p, q) ↦ inr (omega arith, q) ]

same-cuts : (net : Net) (p q : Row) → p.inside ≡ q.inside → branch_set net p ≡ branch_set net q
unfolding branch_set
same-cuts net p q e = ap {B = ℕ} (λ K. collect (length net.branches) (crossing net K)) e

-- a row after a change of one, with others added
changed : (rows w : List Row) (c : ℕ) (x : Row) (i : ℕ) → i < length rows → x.inside ≡ (row_at rows c).inside → (row_at (set rows c x ++ w) i).inside ≡ (row_at rows i).inside
changed rows w c x i l e =
    let d : Row = record { inside = 0; barred = 0 } in
    ap (λ (r : Row). r.inside) (get_or_append_left (set rows c x) w d i (omega (arith, length-set rows c x)))
    ∙ (elim (cases_eq i c) [
      | inl q ↦ subst (λ j. j < length rows → (get_or (set rows c x) j d).inside ≡ (get_or rows j d).inside) (sym q)
          (λ m. ap (λ (r : Row). r.inside) (get_or-set_same rows c x d m) ∙ e) l
      | inr q ↦ ap (λ (r : Row). r.inside) (get_or-set_other rows c i x d q)
    ])

-- a try leaves what was listed where it was
pub try-leaves : (net : Net) (door : ℕ) (s : Search) → Keeps net s (record { rows = tried net door s.rows; tries = s.tries + 1 })
unfolding tried barring
try-leaves net door s =
    let c = current net s.rows in
    let x = barring net (row_at s.rows c) in
    let w = written net door (row_at s.rows c) in
    record {
      rows_stay = omega (arith, length-append (set s.rows c x) w, length-set s.rows c x);
      cuts_stay = λ i l. same-cuts net (row_at (set s.rows c x ++ w) i) (row_at s.rows i) (changed s.rows w c x i l refl);
    }

pub run-keeps : RunKeeps
unfolding run
run-keeps net door zero s = record { rows_stay = omega arith; cuts_stay = λ i l. refl }
run-keeps net door (suc k) s = both (run-keeps net door k (next net door s)) (by-status (Keeps net s) net door s (λ _. try-leaves net door s) (record { rows_stay = omega arith; cuts_stay = λ i l. refl }))
  where
    both : {t u : Search} → Keeps net t u → Keeps net s t → Keeps net s u
    both p q = record { rows_stay = omega arith; cuts_stay = λ i l. p.cuts_stay i (let m = q.rows_stay in omega arith) ∙ q.cuts_stay i l }

pub larger-cuts : LargerCuts
larger-cuts net head door Y Z c h small able' = record { small = small; all_able = able'; apart = λ p. c.apart (moved (λ x y _ _ r. link_moved net (without net Z) (without net Y) fewer x y r) (λ _ q. q) p) }
  where
    fewer : (k : ℕ) → without net Z k ≡ true → without net Y k ≡ true
    fewer k t =
        let p = and_parts (present net k) (not (has Z k)) t in
        and_from (present net k) (not (has Y k)) p.0 (not_from_false (has Y k) (out_of Y Z k (h k) (not-true (has Z k) p.1)))

flipped : (net : Net) (head door Z : ℕ) → Cut net head door Z → Cut net door head Z
flipped net head door Z c = record { small = c.small; all_able = c.all_able; apart = λ p. c.apart (back (link_back net (without net Z)) p) }

turned : {net : Net} {head door : ℕ} → Aim net head door → Aim net door head
turned {net} a = record {
  head_below = a.door_below;
  door_below = a.head_below;
  other = λ e. a.other (sym e);
  joined = back (link_back net (present net)) a.joined;
  unsure = λ c. a.unsure (back (link_back net (sure net)) c);
}

pub either_end : EitherEnd
either_end net head door legal aim' j k fin i l =
    let m = (search-sound net head door legal aim' j).minimal i l in
    let t = search-sound net door head legal (turned aim') k in
    t.complete fin _ (record { cut = flipped net head door _ m.cut; minimal = λ Y p n c. m.minimal Y p n (flipped net door head Y c) })

module _ (net : Net) (legal : Legal net) (kept' : ℕ → Bool) (u : ℕ) where
  pub linked-joined : (v : ℕ) → linked net kept' u v ≡ true → Joined net kept' u v
  unfolding linked
  linked-joined v h =
      let (w, i, c) = spread-chain net.nodes (touches net kept') (Link net kept') (link-below legal kept') (touches-out net kept') (touches-in net kept') net.nodes (single u) v h in
      subst (λ x. Joined net kept' x v) (single-out u w i) (moved (λ _ _ _ _ r. r) (λ _ _. tt) c)

  pub joined-linked : u < net.nodes → (v : ℕ) → Joined net kept' u v → linked net kept' u v ≡ true
  unfolding linked
  joined-linked l v c =
      ends (kept (λ x. linked net kept' u x ≡ true)
      (λ x y _ _ r i. spread-closed net.nodes (touches net kept') (Link net kept') (link-below legal kept') (touches-out net kept') (touches-in net kept') (single u) x y i r)
      (spread-more net.nodes (touches net kept') net.nodes (single u) u l (single-in legal u l)) c)

pub linked-tells : LinkedTells
linked-tells net kept' legal u v l = (linked-joined net legal kept' u v, joined-linked net legal kept' u l v)
