-- One try on one row: what the rows stand for is shared out.
use Rattle.std.proofs.Common.{◌≡◌, ℕ, zero, suc, ◌+◌, ◌^◌, ◌<◌, ◌≤◌, Bool, true, false, cond, not, ◌&&◌, ◌||◌, ◌⊎◌, [], ◌∷◌, length, Decides, sum_by, sym, refl, ap, ◌∙◌, subst, inl, inr, arith}
use lib.Bits.{bit_or}
use Rattle.std.proofs.lemmas.Nat.{or_lt}
use Rattle.std.proofs.lemmas.Bool.{cases_Bool, and_parts, or_cases, or_left, or_right, or_from, not-true, not_from_false, cond_both}
use Rattle.std.proofs.lemmas.Bool.Decides.{Decides-below_and}
use Rattle.std.specs.List.{AllByRecursion}
use Rattle.search.specs.declared.row.Row.{Row}
use Rattle.sets.specs.Masks.{count, has, ◌∈◌, ◌∉◌}
use Rattle.network.specs.Meaning.{Net, Legal}
use Rattle.search.specs.Cuts.{Link, Chain, step, present}
use Rattle.search.specs.Search.{single, share, touches, candidate, lowest_candidate, grown, writes, barring, written}
use Rattle.sets.proofs.Members.{clash, refuted, below-mask, has-or, count-lt}
use Rattle.search.proofs.Singles.{single-in, single-out, single-not, single-small, share_in, share-out}
use Rattle.search.proofs.Chains.{moved}
use Rattle.search.proofs.Links.{touches-out, link_back, closure-small, closure-all}
use Rattle.search.proofs.Sides.{Rooted, Side, out_of, closure-more, closure-side, closure-least}

-- what a row stands for: the sides that hold all of its inside and none of its barred nodes
abbrev pub Region : Net → ℕ → Row → Type 0
Region net K r = (v : ℕ) → v < net.nodes → (v ∈ r.inside → v ∈ K) × (v ∈ K → v ∉ r.barred)

right : Bool → Bool → Bool → Bool
right a b c = (not a || c) && (not c || not b)

right-from : (a b c : Bool) → (a ≡ true → c ≡ true) → (c ≡ true → b ≡ false) → right a b c ≡ true
unfolding right
right-from true true true p q = sym (q refl)
right-from false true true p q = sym (q refl)
right-from true false true p q = refl
right-from false false true p q = refl
right-from true b false p q = p refl
right-from false b false p q = refl

right_is : (a b c : Bool) → Decides (right a b c) ((a ≡ true → c ≡ true) × (c ≡ true → b ≡ false))
unfolding right
right_is a b c = (λ h. (λ p. grind arith, λ p. grind arith), λ h. right-from a b c h.0 h.1)

every : ℕ → (ℕ → Bool) → Bool
every zero f = true
every (suc n) f = f n && every n f

pub fits : Net → ℕ → Row → Bool
fits net K r = every net.nodes (λ v. right (has r.inside v) (has r.barred v) (has K v))

pub fits-is : (net : Net) (K : ℕ) (r : Row) → Decides (fits net K r) (Region net K r)
unfolding fits every
fits-is net K r = Decides-below_and (λ v. right (has r.inside v) (has r.barred v) (has K v)) (λ v. (v ∈ r.inside → v ∈ K) × (v ∈ K → v ∉ r.barred))
    (λ n. every n (λ v. right (has r.inside v) (has r.barred v) (has K v))) (λ v. right_is (has r.inside v) (has r.barred v) (has K v)) refl (λ _. refl) net.nodes

-- 1 where K is one of a row's sides
pub hit : Net → ℕ → Row → ℕ
hit net K r = cond (fits net K r) 1 0

pub hit-in : (net : Net) (K : ℕ) (r : Row) → Region net K r → hit net K r ≡ 1
unfolding hit
hit-in net K r h = rw ((fits-is net K r).1 h)

pub hit-out : (net : Net) (K : ℕ) (r : Row) → (Region net K r → ⊥) → hit net K r ≡ 0
unfolding hit
hit-out net K r h = elim (cases_Bool (fits net K r)) [ inl t ↦ absurd (h ((fits-is net K r).0 t)) | inr t ↦ rw t ]

pub hit-cases : (net : Net) (K : ℕ) (r : Row) → (Region net K r × (hit net K r ≡ 1)) ⊎ ((Region net K r → ⊥) × (hit net K r ≡ 0))
hit-cases net K r = elim (cases_Bool (fits net K r)) [
  | inl t ↦ inl ((fits-is net K r).0 t, hit-in net K r ((fits-is net K r).0 t))
  | inr t ↦ inr (λ h. clash t ((fits-is net K r).1 h), hit-out net K r (λ h. clash t ((fits-is net K r).1 h)))
]

pub record Good (net : Net) (head door : ℕ) (r : Row) : Type 0 where
  pub side : Side net head door r.inside
  pub clear : (v : ℕ) → v ∈ r.inside → v ∉ r.barred
  pub door_barred : door ∈ r.barred

pub some-barred : {net : Net} {head door : ℕ} → door < net.nodes → (r : Row) → Good net head door r → 1 ≤ count net.nodes (has r.barred)
some-barred {net} {head} {door} l r g = let p = count-lt net.nodes (λ _. false) (has r.barred) (λ _ _ e. absurd (clash refl e)) door l refl g.door_barred in omega arith

-- the row's own inside is one of its sides
pub own : {net : Net} {head door : ℕ} (r : Row) → Good net head door r → hit net r.inside r ≡ 1
own {net} r g = hit-in net r.inside r (λ v _. (λ i. i, g.clear v))

module _ {net : Net} (legal : Legal net) {head door : ℕ} (door_below : door < net.nodes) where
  module _ (r : Row) (g : Good net head door r) (low : lowest_candidate net r < net.nodes) (cand : candidate net r (lowest_candidate net r) ≡ true) where
    abbrev v : ℕ
    v = lowest_candidate net r

    abbrev J : ℕ
    J = bit_or r.inside (single (lowest_candidate net r))

    v-parts : (v ∉ r.inside) × (v ∉ r.barred) × (touches net (present net) r.inside v ≡ true)
    unfolding candidate
    v-parts =
        let p = and_parts (not (has r.inside v) && not (has r.barred v)) (touches net (present net) r.inside v) cand in
        let q = and_parts (not (has r.inside v)) (not (has r.barred v)) p.0 in
        (not-true (has r.inside v) q.0, not-true (has r.barred v) q.1, p.1)

    J-small : J < 2 ^ net.nodes
    J-small = or_lt net.nodes r.inside (single v) g.side.small (single-small legal v low)

    J-more : (x : ℕ) → x ∈ r.inside → x ∈ J
    J-more x i = has-or r.inside (single v) x ∙ or_left (has r.inside x) (has (single v) x) i

    J-v : v ∈ J
    J-v = has-or r.inside (single v) v ∙ or_right (has r.inside v) (has (single v) v) (single-in legal v low)

    J-cases : (x : ℕ) → x ∈ J → (x ∈ r.inside) ⊎ (x ≡ v)
    J-cases x i = elim (or_cases (has r.inside x) (has (single v) x) (sym (has-or r.inside (single v) x) ∙ i)) [ inl t ↦ inl t | inr t ↦ inr (single-out v x t) ]

    J-rooted : Rooted net head J
    J-rooted u w i o l = elim (J-cases u i) [
      | inl t ↦ moved (λ _ _ _ _ q. q) J-more (g.side.rooted u w t (out_of r.inside J w (J-more w) o) l)
      | inr e ↦
          let (y, j, k) = touches-out net (present net) r.inside v v-parts.2 in
          subst (λ x. Chain (Link net (present net)) (λ z. z ∈ J) x head) (sym e)
          (step J-v (link_back net (present net) y v k) (moved (λ _ _ _ _ q. q) J-more (g.side.rooted y v j v-parts.0 k)))
    ]

    -- the two parts into which a try divides what the row stands for
    abbrev fresh : Row
    fresh = record { inside = grown net door r; barred = r.barred }

    grown-more : (x : ℕ) → x ∈ J → x ∈ grown net door r
    unfolding grown
    grown-more x i = closure-more legal door_below J J-small x i

    grown-least : (K : ℕ) → Side net head door K → ((x : ℕ) → x ∈ J → x ∈ K) → (x : ℕ) → x ∈ grown net door r → x ∈ K
    unfolding grown
    grown-least = closure-least legal door_below J J-small

    grown-small : grown net door r < 2 ^ net.nodes
    unfolding grown
    grown-small = closure-small legal door_below J

    clear_of : writes net door r ≡ true → (x : ℕ) → x ∈ grown net door r → x ∉ r.barred
    unfolding writes
    clear_of w x i = refuted (λ t. clash (not-true (share (grown net door r) r.barred) w)
        (share_in (grown net door r) r.barred x (let l = below-mask net.nodes (grown net door r) x grown-small i in let p = legal.nodes in omega arith) i t))

    writes-if : ((x : ℕ) → x ∈ grown net door r → x ∉ r.barred) → writes net door r ≡ true
    unfolding writes
    writes-if h = not_from_false (share (grown net door r) r.barred) (share-out (grown net door r) r.barred h)

    pub fresh-good : writes net door r ≡ true → Good net head door fresh
    unfolding grown
    fresh-good w = record {
      side = closure-side legal door_below J J-small (J-more head g.side.head_in) J-rooted (refuted (λ t. clash (clear_of w door (closure-all legal door_below J door t door_below)) g.door_barred));
      clear = clear_of w;
      door_barred = g.door_barred;
    }

    barred-more : (x : ℕ) → x ∈ r.barred → x ∈ (barring net r).barred
    unfolding barring
    barred-more x i = has-or r.barred (single v) x ∙ or_left (has r.barred x) (has (single v) x) i

    barred-v : v ∈ (barring net r).barred
    unfolding barring
    barred-v = has-or r.barred (single v) v ∙ or_right (has r.barred v) (has (single v) v) (single-in legal v low)

    barred-not : (x : ℕ) → x ∉ r.barred → (x ≡ v → ⊥) → x ∉ (barring net r).barred
    unfolding barring
    barred-not x o n = has-or r.barred (single v) x ∙ or_from (has r.barred x) (has (single v) x) o (single-not v x n)

    pub barring-good : Good net head door (barring net r)
    unfolding barring
    barring-good = record {
      side = g.side;
      clear = λ x i. barred-not x (g.clear x i) (λ e. clash v-parts.0 (ap (has r.inside) (sym e) ∙ i));
      door_barred = barred-more door g.door_barred;
    }

    pub barred-counts : count net.nodes (has r.barred) < count net.nodes (has (barring net r).barred)
    barred-counts = count-lt net.nodes (has r.barred) (has (barring net r).barred) (λ x _. barred-more x) v low v-parts.1 barred-v

    written-yes : (f : Row → ℕ) → writes net door r ≡ true → sum_by f (written net door r) ≡ f fresh
    unfolding written
    written-yes f w = rw w (omega arith)

    written-no : (f : Row → ℕ) → writes net door r ≡ false → sum_by f (written net door r) ≡ 0
    unfolding written
    written-no f w = rw w

    pub written-pays : length (written net door r) ≤ sum_by (λ q. count net.nodes (has q.barred)) (written net door r)
    unfolding written
    written-pays = cond_both (writes net door r) (fresh ∷ []) [] (λ rows. length rows ≤ sum_by (λ q. count net.nodes (has q.barred)) rows)
        (λ _. let p = some-barred door_below r g in omega arith) (λ _. omega arith)

    pub written-good : AllByRecursion (Good net head door) (written net door r)
    unfolding written
    written-good = cond_both (writes net door r) (fresh ∷ []) [] (AllByRecursion (Good net head door)) (λ w. (fresh-good w, tt)) (λ _. tt)

    -- a side that has v belongs to the new row
    with-v : (K : ℕ) → Side net head door K → v ∈ K → sum_by (hit net K) (written net door r) ≡ hit net K r
    with-v K k i = elim (hit-cases net K r) [
      | inl (a, e) ↦
          let sub : (x : ℕ) → x ∈ grown net door r → x ∈ K = grown-least K k (λ x j. elim (J-cases x j) [
            | inl t ↦ (a x (below-mask net.nodes r.inside x g.side.small t)).0 t
            | inr q ↦ ap (has K) q ∙ i
          ]) in
          let w = writes-if (λ x j. (a x (below-mask net.nodes K x k.small (sub x j))).1 (sub x j)) in
          written-yes (hit net K) w ∙ hit-in net K fresh (λ x l. (sub x, (a x l).1)) ∙ sym e
      | inr (n, e) ↦ elim (cases_Bool (writes net door r)) [
        | inl w ↦ written-yes (hit net K) w ∙ hit-out net K fresh (λ a. n (λ x l. (λ j. (a x l).0 (grown-more x (J-more x j)), (a x l).1))) ∙ sym e
        | inr w ↦ written-no (hit net K) w ∙ sym e
      ]
    ]

    -- and one that has not, to the row with v barred
    without-v : (K : ℕ) → v ∉ K → sum_by (hit net K) (written net door r) ≡ 0
    without-v K o = elim (cases_Bool (writes net door r)) [
      | inl w ↦ written-yes (hit net K) w ∙ hit-out net K fresh (λ a. clash o ((a v low).0 (grown-more v J-v)))
      | inr w ↦ written-no (hit net K) w
    ]

    still : (K : ℕ) → v ∉ K → hit net K (barring net r) ≡ hit net K r
    unfolding barring
    still K o = elim (hit-cases net K r) [
      | inl (a, e) ↦ hit-in net K (barring net r) (λ x l. ((a x l).0, λ j. barred-not x ((a x l).1 j) (λ q. clash o (ap (has K) (sym q) ∙ j)))) ∙ sym e
      | inr (n, e) ↦ hit-out net K (barring net r) (λ a. n (λ x l. ((a x l).0, λ j. out_of r.barred (barring net r).barred x (barred-more x) ((a x l).1 j)))) ∙ sym e
    ]

    pub shared : (K : ℕ) → Side net head door K → hit net K r ≡ hit net K (barring net r) + sum_by (hit net K) (written net door r)
    shared K k = elim (cases_Bool (has K v)) [
      | inl i ↦ omega (arith, with-v K k i, hit-out net K (barring net r) (λ a. clash ((a v low).1 i) barred-v))
      | inr o ↦ omega (arith, without-v K o, still K o)
    ]
