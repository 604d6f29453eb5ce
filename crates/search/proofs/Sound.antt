-- The search after any number of tries.
use Rattle.std.proofs.Common.{◌≡◌, ℕ, zero, suc, ◌+◌, ◌-◌, ◌*◌, ◌<◌, ◌≤◌, true, false, cond, ◌&&◌, ltb, leb, List, [], ◌∷◌, length, get_or, set, sum_by, sym, refl, ap, ◌∙◌, subst, inl, inr, arith, length-append, length-set}
use Rattle.std.proofs.ByRecursion.{All-get_or, All-append, All-set, All-weaker, sum_by_le}
use Rattle.std.proofs.lemmas.List.Sums.{sum_by-cons, sum_by-append, sum_by-set, get_or-le-sum_by}
use Rattle.std.proofs.lemmas.Bool.{cases_Bool, cases_lt, cases_order, cond-true, cond-false, ltb-true, ltb-false, le-ltb}
use Rattle.std.specs.List.{AllByRecursion}
use Rattle.search.specs.declared.row.Row.{Row}
use Rattle.search.specs.declared.status.Status.{Status}
use Rattle.search.specs.declared.status.Status.TheVariants.{Finished, Full, More}
use Rattle.sets.specs.Masks.{count, has, ◌∈◌, ◌∉◌}
use Rattle.network.specs.Meaning.{Net, Legal}
use Rattle.search.specs.Cuts.{Link, Chain, here, Joined, sure, present}
use Rattle.search.specs.Search.{single, Search, closure, branch_set, candidate, lowest_candidate, open_row, row_at, current, writes, room, status, barring, written, tried, first_row, aimed, next, run}
use Rattle.search.specs.Statement.{Aim, Exhausted, Sound, SearchSound}
use Rattle.sets.proofs.Members.{clash, refuted, below-mask, same-mask, least-is, count-max, count-lt}
use Rattle.search.proofs.Singles.{single-in, single-out, single-small}
use Rattle.search.proofs.Chains.{moved}
use Rattle.search.proofs.Links.{held-chain}
use Rattle.search.proofs.Sides.{Side, out_of, closure-side, closure-least, alone}
use Rattle.search.proofs.Cuts.{cut_of, side_cut, same-side}
use Rattle.search.proofs.Complete.{side-of, is-side, is_cut, inner, inner-side, inner_cut}
use Rattle.search.proofs.Shares.{Region, own, some-barred, hit, hit-in, hit-cases, Good, barring-good, barred-counts, written-pays, written-good, shared}

-- some element that counts, and two of them
one_hit : {X : Type 0} (f : X → ℕ) (xs : List X) (d : X) → 1 ≤ sum_by f xs → (i : ℕ) × (i < length xs) × (1 ≤ f (get_or xs i d))
one_hit f [] d h = absurd (omega arith)
one_hit f (x ∷ xs) d h = elim (cases_lt 0 (f x)) [
  | inl l ↦ (0, omega arith, l)
  | inr z ↦ let (i, l, k) = one_hit f xs d (omega (arith, sum_by-cons f x xs)) in (suc i, omega arith, k)
]

two-hits : {X : Type 0} (f : X → ℕ) (xs : List X) (d : X) (i j : ℕ) → i < j → j < length xs → 1 ≤ f (get_or xs i d) → 1 ≤ f (get_or xs j d) → 2 ≤ sum_by f xs
two-hits f [] d i j a b p q = absurd (omega arith)
two-hits f (x ∷ xs) d zero zero a b p q = absurd (omega arith)
two-hits f (x ∷ xs) d (suc i) zero a b p q = absurd (omega arith)
two-hits f (x ∷ xs) d zero (suc j) a b p q = omega (arith, sum_by-cons f x xs, get_or-le-sum_by f xs j d (omega arith))
two-hits f (x ∷ xs) d (suc i) (suc j) a b p q = omega (arith, sum_by-cons f x xs, two-hits f xs d i j (omega arith) (omega arith) p q)

-- a search by its status
pub by-status : (P : Search → Type 0) (net : Net) (door : ℕ) (s : Search)
    → (status net door s.rows ≡ More → P (record { rows = tried net door s.rows; tries = s.tries + 1 })) → P s → P (next net door s)
unfolding next
by-status P net door s f p = go (status net door s.rows) refl
  where
    go : (t : Status) → status net door s.rows ≡ t → P (elim t [ Finished ↦ s | Full ↦ s | More ↦ record { rows = tried net door s.rows; tries = s.tries + 1 } ])
    go Finished e = p
    go Full e = p
    go More e = f e

pub more-open : (net : Net) (door : ℕ) (rows : List Row) → status net door rows ≡ More → current net rows < length rows
unfolding status
more-open net door rows e = elim (cases_Bool (ltb (current net rows) (length rows))) [
  | inl t ↦ ltb-true (current net rows) (length rows) t
  | inr t ↦ let q = sym (cond-false (ltb (current net rows) (length rows)) (cond (leb room (length rows) && writes net door (row_at rows (current net rows))) Full More) Finished t) ∙ e in cc
]

pub finished-shut : (net : Net) (door : ℕ) (rows : List Row) → status net door rows ≡ Finished → length rows ≤ current net rows
unfolding status
finished-shut net door rows e = elim (cases_Bool (ltb (current net rows) (length rows))) [
  | inr t ↦ ltb-false (current net rows) (length rows) t
  | inl t ↦
      let b = leb room (length rows) && writes net door (row_at rows (current net rows)) in
      let q = sym (cond-true (ltb (current net rows) (length rows)) (cond b Full More) Finished t) ∙ e in
      elim (cases_Bool b) [
        | inl u ↦ let w = sym (cond-true b Full More u) ∙ q in cc
        | inr u ↦ let w = sym (cond-false b Full More u) ∙ q in cc
      ]
]

pub shut-finished : (net : Net) (door : ℕ) (rows : List Row) → length rows ≤ current net rows → status net door rows ≡ Finished
unfolding status
shut-finished net door rows h = cond-false (ltb (current net rows) (length rows)) _ Finished (le-ltb (current net rows) (length rows) h)

pub open-cand : (net : Net) (r : Row) → lowest_candidate net r < net.nodes → candidate net r (lowest_candidate net r) ≡ true
unfolding lowest_candidate
open-cand net r l = (least-is net.nodes (candidate net r)).passes l

pub shut-cand : (net : Net) (r : Row) → net.nodes ≤ lowest_candidate net r → (v : ℕ) → v < net.nodes → candidate net r v ≡ false
unfolding lowest_candidate
shut-cand net r h v l = (least-is net.nodes (candidate net r)).before v (omega arith)

pub current-open : (net : Net) (rows : List Row) → current net rows < length rows → lowest_candidate net (row_at rows (current net rows)) < net.nodes
unfolding current
current-open net rows l = ltb-true _ _ ((least-is (length rows) (λ i. open_row net (row_at rows i))).passes l)

pub current-shut : (net : Net) (rows : List Row) → length rows ≤ current net rows → (i : ℕ) → i < length rows → net.nodes ≤ lowest_candidate net (row_at rows i)
unfolding current
current-shut net rows h i l = ltb-false _ _ ((least-is (length rows) (λ i. open_row net (row_at rows i))).before i (omega arith))

abbrev pub barred_count : Net → Row → ℕ
barred_count net r = count net.nodes (has r.barred)

pub record Inv (net : Net) (head door : ℕ) (s : Search) : Type 0 where
  pub good : AllByRecursion (Good net head door) s.rows
  -- each side belongs to exactly one row
  pub once : (K : ℕ) → Side net head door K → sum_by (hit net K) s.rows ≡ 1
  -- each try has barred a node
  pub paid : s.tries + length s.rows ≤ sum_by (barred_count net) s.rows

module _ {net : Net} {head door : ℕ} (legal : Legal net) (aim : Aim net head door) where
  closed_head : Side net head door (closure net door (single head))
  closed_head = closure-side legal aim.door_below (single head) (single-small legal head aim.head_below) (single-in legal head aim.head_below)
      (λ u v i o l. subst (λ x. Chain (Link net (present net)) (λ z. z ∈ single head) x head) (sym (single-out head u i)) (here (single-in legal head aim.head_below)))
      (refuted (λ t. let (u, i, c) = held-chain legal (single head) door t in
      aim.unsure (subst (λ x. Joined net (sure net) x door) (single-out head u i) (moved (λ _ _ _ _ q. q) (λ _ _. tt) c))))

  -- a side has not the door
  door_clear : (K : ℕ) → Side net head door K → (v : ℕ) → v ∈ K → v ∉ single door
  door_clear K k v i = refuted (λ t. clash k.door_out (subst (λ x. x ∈ K) (single-out door v t) i))

  first_good : Good net head door (first_row net head door)
  first_good = record { side = closed_head; clear = door_clear (closure net door (single head)) closed_head; door_barred = single-in legal door aim.door_below }

  first_all : (K : ℕ) → Side net head door K → Region net K (first_row net head door)
  first_all K k v l = (
    closure-least legal aim.door_below (single head) (single-small legal head aim.head_below) K k (λ x i. subst (λ y. y ∈ K) (sym (single-out head x i)) k.head_in) v,
    door_clear K k v,
  )

  pub start : Inv net head door (aimed net head door)
  start = record {
    good = (first_good, tt);
    once = λ K k. omega (arith, hit-in net K (first_row net head door) (first_all K k));
    paid = omega (arith, some-barred aim.door_below (first_row net head door) first_good);
  }

  -- a try of the current row, whether or not there is room for what it writes
  pub try-keeps : (s : Search) → Inv net head door s → current net s.rows < length s.rows → Inv net head door (record { rows = tried net door s.rows; tries = s.tries + 1 })
  unfolding tried
  try-keeps s v l =
      let rows = s.rows in
      let i = current net rows in
      let r = row_at rows i in
      let d : Row = record { inside = 0; barred = 0 } in
      let g = All-get_or (Good net head door) rows i d l v.good in
      let low = current-open net rows l in
      let cand = open-cand net r low in
      let x = barring net r in
      let w = written net door r in
      record {
        good = All-append (Good net head door) (set rows i x) w
            (All-set (Good net head door) rows i x (barring-good legal aim.door_below r g low cand) v.good)
            (written-good legal aim.door_below r g low cand);
        once = λ K k. omega (
          arith,
          sum_by-append (hit net K) (set rows i x) w,
          sum_by-set (hit net K) rows i x d l,
          shared legal aim.door_below r g low cand K k,
          v.once K k,
        );
        paid = omega (
          arith,
          v.paid,
          length-append (set rows i x) w,
          length-set rows i x,
          sum_by-append (barred_count net) (set rows i x) w,
          sum_by-set (barred_count net) rows i x d l,
          barred-counts legal aim.door_below r g low cand,
          written-pays legal aim.door_below r g low cand,
        );
      }

  pub always : (k : ℕ) (s : Search) → Inv net head door s → Inv net head door (run net door k s)
  unfolding run
  always zero s v = v
  always (suc k) s v = always k (next net door s) (by-status (Inv net head door) net door s (λ e. try-keeps s v (more-open net door s.rows e)) v)

  module _ (s : Search) (v : Inv net head door s) where
    pub good_at : (i : ℕ) → i < length s.rows → Good net head door (row_at s.rows i)
    good_at i l = All-get_or (Good net head door) s.rows i (record { inside = 0; barred = 0 }) l v.good

    ordered : (i j : ℕ) → i < j → j < length s.rows → (row_at s.rows i).inside ≡ (row_at s.rows j).inside → ⊥
    ordered i j a b e =
        let K = (row_at s.rows i).inside in
        let gi = good_at i (omega arith) in
        let gj = good_at j b in
        omega (
          arith,
          v.once K gi.side,
          two-hits (hit net K) s.rows (record { inside = 0; barred = 0 }) i j a b
              (omega (arith, own (row_at s.rows i) gi))
              (omega (arith, ap (λ L. hit net L (row_at s.rows j)) e ∙ own (row_at s.rows j) gj)),
        )

    same_row : (i j : ℕ) → i < length s.rows → j < length s.rows → (row_at s.rows i).inside ≡ (row_at s.rows j).inside → i ≡ j
    same_row i j a b e = elim (cases_order i j) [
      | inl q ↦ q
      | inr (inl l) ↦ absurd (ordered i j l b e)
      | inr (inr l) ↦ absurd (ordered j i l a (sym e))
    ]

    listed : Exhausted net s → (K : ℕ) → Side net head door K → (i : ℕ) × (i < length s.rows) × ((row_at s.rows i).inside ≡ K)
    listed none K k =
        let (i, l, h) = one_hit (hit net K) s.rows (record { inside = 0; barred = 0 }) (omega (arith, v.once K k)) in
        let r = row_at s.rows i in
        let g = good_at i l in
        elim (hit-cases net K r) [
          | inr (n, z) ↦ absurd (omega arith)
          | inl (a, z) ↦
              let sub : (x : ℕ) → x ∈ r.inside → x ∈ K = λ x j. (a x (below-mask net.nodes r.inside x g.side.small j)).0 j in
              let sup = alone legal aim.door_below r K g.side k sub (λ x j. (a x (below-mask net.nodes K x k.small j)).1 j) (λ v q. none i v l q) in (
                i,
                l,
                same-mask net.nodes r.inside K g.side.small k.small (λ x _. elim (cases_Bool (has K x)) [
                  | inl t ↦ sup x t ∙ sym t
                  | inr t ↦ out_of r.inside K x (sub x) t ∙ sym t
                ]),
              )
        ]

    few : AllByRecursion (λ r. barred_count net r ≤ net.nodes - 1) s.rows
    few = All-weaker (Good net head door) (λ r. barred_count net r ≤ net.nodes - 1)
        (λ r g. let p = count-lt net.nodes (has r.barred) (λ _. true) (λ _ _ _. refl) head aim.head_below (g.clear head g.side.head_in) refl in
        let q = count-max net.nodes (λ _. true) in omega arith) s.rows v.good

    none : status net door s.rows ≡ Finished → Exhausted net s
    none e i v a b = shut-cand net (row_at s.rows i) (current-shut net s.rows (finished-shut net door s.rows e) i a) v b

    pub sound : Sound net head door s
    unfolding branch_set
    sound = record {
      minimal = λ i l. side_cut legal (row_at s.rows i).inside (good_at i l).side;
      distinct = λ i j a b e. same_row i j a b (same-side legal (row_at s.rows i).inside (row_at s.rows j).inside (good_at i a).side (good_at j b).side e);
      finished = none;
      exhausted = λ shut. shut-finished net door s.rows (elim (cases_lt (current net s.rows) (length s.rows)) [
        | inr h ↦ h
        | inl l ↦
            let low = current-open net s.rows l in
            absurd (clash
            (shut (current net s.rows) (lowest_candidate net (row_at s.rows (current net s.rows))) l low) (open-cand net (row_at s.rows (current net s.rows)) low))
      ]);
      complete = λ fin Z m.
          let (i, l, e) = listed (none fin) (side-of net door Z) (is-side legal aim.head_below aim.door_below Z m) in
          (i, l, ap (cut_of net) e ∙ is_cut legal aim.head_below aim.door_below Z m);
      covered = λ fin Z c.
          let (i, l, e) = listed (none fin) (inner legal aim.head_below aim.door_below Z c) (inner-side legal aim.head_below aim.door_below Z c) in
          (i, l, λ k h. inner_cut legal aim.head_below aim.door_below Z c k (subst (λ K. k ∈ cut_of net K) e h));
      few_tries =
          let n : 2 ≤ net.nodes = elim (cases_order head door) [ inl e ↦ absurd (aim.other e) | inr (inl a) ↦ let b = aim.door_below in omega arith | inr (inr a) ↦ let b = aim.head_below in omega arith ] in
          let e : net.nodes - 1 ≡ suc (net.nodes - 2) = omega arith in
          let t = sum_by_le (barred_count net) (net.nodes - 1) s.rows few in
          let u : sum_by (barred_count net) s.rows ≤ length s.rows * suc (net.nodes - 2) = rw e at t in
          omega (arith, v.paid);
    }

pub search-sound : SearchSound
search-sound net head door legal aim k = sound legal aim (run net door k (aimed net head door)) (always legal aim k (aimed net head door) (start legal aim))
