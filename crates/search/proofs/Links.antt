-- Links by their tests, and what `held`, `outside` and `closure` are.
use Rattle.std.proofs.Common.{◌≡◌, ℕ, ◌^◌, ◌<◌, Bool, true, not, ◌&&◌, ◌||◌, eqb, ◌⊎◌, sym, refl, ap, ◌∙◌, subst, inl, inr, arith}
use Rattle.std.proofs.lemmas.Bool.{false≢true, cases_Bool, and_parts, and_from, or_cases, or_left, or_right, not-true, not-false, or_parts, not_from_false, eqb-true, eq-eqb}
use Rattle.network.specs.declared.branch.Condition.{Condition}
use Rattle.network.specs.declared.branch.Condition.TheVariants.{Able, Failed, Working}
use Rattle.network.specs.declared.branch.Branch.{Branch}
use Rattle.sets.specs.Masks.{has, ◌∈◌, ◌∉◌}
use Rattle.network.specs.Meaning.{Net, Legal}
use Rattle.search.specs.Cuts.{is_able, is_working, is_present, Link, Ends, Chain, branch, branches_of, sure, present}
use Rattle.search.specs.Search.{single, meets, touches, held, outside, closure}
use Rattle.sets.proofs.Members.{clash, certain, has-collect, collect-small, decides-any}
use Rattle.search.proofs.Singles.{ends-below, single-in, single-out}
use Rattle.search.proofs.Chains.{ends, back, moved, kept}
use Rattle.search.proofs.Spread.{spread-small, spread-more, spread-closed, spread-chain}

meets-out : (b : Branch) (S v : ℕ) → meets b S v ≡ true → (u : ℕ) × (u ∈ S) × Ends b u v
meets-out b S v h = elim (or_cases (eqb b.from v && has S b.to) (eqb b.to v && has S b.from) h) [
  | inl t ↦ let p = and_parts (eqb b.from v) (has S b.to) t in (b.to, p.1, inr (eqb-true b.from v p.0, refl))
  | inr t ↦ let p = and_parts (eqb b.to v) (has S b.from) t in (b.from, p.1, inl (refl, eqb-true b.to v p.0))
]

meets-in : (b : Branch) (S u v : ℕ) → u ∈ S → Ends b u v → meets b S v ≡ true
meets-in b S u v i (inl e) = or_right (eqb b.from v && has S b.to) _ (and_from _ _ (eq-eqb b.to v e.1) (ap (has S) e.0 ∙ i))
meets-in b S u v i (inr e) = or_left _ (eqb b.to v && has S b.from) (and_from _ _ (eq-eqb b.from v e.0) (ap (has S) e.1 ∙ i))

pub touches-out : (net : Net) (kept : ℕ → Bool) (S v : ℕ) → touches net kept S v ≡ true → (u : ℕ) × (u ∈ S) × Link net kept u v
unfolding touches
touches-out net kept S v h =
    let (k, l, t) = (decides-any (λ k. kept k && meets (branch net k) S v) (branches_of net)).0 h in
    let p = and_parts (kept k) (meets (branch net k) S v) t in
    let (u, i, e) = meets-out (branch net k) S v p.1 in
    (u, i, record { by = k; below = l; is_kept = p.0; ends = e })

pub touches-in : (net : Net) (kept : ℕ → Bool) (S u v : ℕ) → u ∈ S → Link net kept u v → touches net kept S v ≡ true
unfolding touches
touches-in net kept S u v i r =
    (decides-any (λ k. kept k && meets (branch net k) S v) (branches_of net)).1
    (r.by, r.below, and_from (kept r.by) (meets (branch net r.by) S v) r.is_kept (meets-in (branch net r.by) S u v i r.ends))

abbrev pub link_back : (net : Net) (kept : ℕ → Bool) (u v : ℕ) → Link net kept u v → Link net kept v u
link_back net kept u v r = record { by = r.by; below = r.below; is_kept = r.is_kept; ends = elim r.ends [ inl e ↦ inr e | inr e ↦ inl e ] }

pub link-below : {net : Net} → Legal net → (kept : ℕ → Bool) (u v : ℕ) → Link net kept u v → (u < net.nodes) × (v < net.nodes)
link-below legal kept u v r =
    let p = ends-below legal r.by r.below in
    elim r.ends [ inl e ↦ omega arith | inr e ↦ omega arith ]

-- a link by other branches, one of which is the same
abbrev pub link_moved : (net : Net) (p q : ℕ → Bool) → ((k : ℕ) → p k ≡ true → q k ≡ true) → (u v : ℕ) → Link net p u v → Link net q u v
link_moved net p q h u v r = record { by = r.by; below = r.below; is_kept = h r.by r.is_kept; ends = r.ends }

pub working-present : (c : Condition) → is_working c ≡ true → is_present c ≡ true
working-present Able h = absurd (false≢true h)
working-present Failed h = absurd (false≢true h)
working-present Working h = refl

pub able-present : (c : Condition) → is_able c ≡ true → is_present c ≡ true
able-present Able h = refl
able-present Failed h = absurd (false≢true h)
able-present Working h = absurd (false≢true h)

pub present-cases : (c : Condition) → is_present c ≡ true → (is_working c ≡ true) ⊎ (is_able c ≡ true)
present-cases Able h = inr refl
present-cases Failed h = absurd (false≢true h)
present-cases Working h = inl refl

pub not-both : (c : Condition) → is_working c ≡ true → is_able c ≡ true → ⊥
not-both Able w a = false≢true w
not-both Failed w a = false≢true w
not-both Working w a = false≢true a

-- from here on, one network
module _ {net : Net} (legal : Legal net) where
  abbrev pub Live : ℕ → ℕ → Type 0
  Live = Link net (present net)

  abbrev pub Firm : ℕ → ℕ → Type 0
  Firm = Link net (sure net)

  abbrev pub firm_live : (u v : ℕ) → Firm u v → Live u v
  firm_live = link_moved net (sure net) (present net) (λ k h. working-present (branch net k).condition h)

  pub held_small : (J : ℕ) → J < 2 ^ net.nodes → held net J < 2 ^ net.nodes
  unfolding held
  held_small J s = spread-small net.nodes (touches net (sure net)) net.nodes J s

  pub held_more : (J v : ℕ) → v < net.nodes → v ∈ J → v ∈ held net J
  unfolding held
  held_more J v l h = spread-more net.nodes (touches net (sure net)) net.nodes J v l h

  pub held-firm : (J u v : ℕ) → u ∈ held net J → Firm u v → v ∈ held net J
  unfolding held
  held-firm J u v i r = spread-closed net.nodes (touches net (sure net)) Firm (link-below legal (sure net)) (touches-out net (sure net)) (touches-in net (sure net)) J u v i r

  pub held-chain : (J v : ℕ) → v ∈ held net J → (u : ℕ) × (u ∈ J) × Chain Firm (λ x. x ∈ held net J) u v
  unfolding held
  held-chain J v i = spread-chain net.nodes (touches net (sure net)) Firm (link-below legal (sure net)) (touches-out net (sure net)) (touches-in net (sure net)) net.nodes J v i

  module _ {door : ℕ} (door_below : door < net.nodes) where
    abbrev Free : ℕ → ℕ → ℕ → Type 0
    Free J u v = (v ∉ J) × Live u v

    free : ℕ → ℕ → ℕ → Bool
    free J S v = not (has J v) && touches net (present net) S v

    free-out : (J S v : ℕ) → free J S v ≡ true → (u : ℕ) × (u ∈ S) × Free J u v
    unfolding free
    free-out J S v h =
        let p = and_parts (not (has J v)) (touches net (present net) S v) h in
        let (u, i, r) = touches-out net (present net) S v p.1 in
        (u, i, (not-true (has J v) p.0, r))

    free_in : (J S u v : ℕ) → u ∈ S → Free J u v → free J S v ≡ true
    unfolding free
    free_in J S u v i r = and_from (not (has J v)) (touches net (present net) S v) (not_from_false (has J v) r.0) (touches-in net (present net) S u v i r.1)

    free-below : (J u v : ℕ) → Free J u v → (u < net.nodes) × (v < net.nodes)
    free-below J u v r = link-below legal (present net) u v r.1

    pub outside-chain : (J v : ℕ) → door ∉ J → v ∈ outside net door J → Chain Live (λ x. x ∉ J) v door
    unfolding outside free
    outside-chain J v d h =
        let (u, i, c) = spread-chain net.nodes (free J) (Free J) (free-below J) (free-out J) (free_in J) net.nodes (single door) v h in
        let e = single-out door u i in
        back (link_back net (present net)) (moved (λ x y p q r. r.1) (λ x p. p) (kept (λ x. x ∉ J) (λ x y p q r _. r.0) d (subst (λ x. Chain (Free J) (λ x. x ∈ outside net door J) x v) e c)))

    pub chain-outside : (J v : ℕ) → Chain Live (λ x. x ∉ J) v door → v ∈ outside net door J
    unfolding outside free
    chain-outside J v c =
        ends (kept (λ x. x ∈ outside net door J)
        (λ x y p q r i. spread-closed net.nodes (free J) (Free J) (free-below J) (free-out J) (free_in J) (single door) x y i (q, r))
        (spread-more net.nodes (free J) net.nodes (single door) door door_below (single-in legal door door_below))
        (back (link_back net (present net)) c))

    pub closure-small : (J : ℕ) → closure net door J < 2 ^ net.nodes
    unfolding closure
    closure-small J = collect-small net.nodes (λ v. has (held net J) door || not (has (outside net door (held net J)) v))

    pub has-closure : (J v : ℕ) → v < net.nodes → has (closure net door J) v ≡ (has (held net J) door || not (has (outside net door (held net J)) v))
    unfolding closure
    has-closure J v l = has-collect net.nodes (λ v. has (held net J) door || not (has (outside net door (held net J)) v)) v l

    -- the closure in words: all nodes where the door is held, and otherwise each node without a chain to the door that avoids what is held
    pub closure-all : (J v : ℕ) → door ∈ held net J → v < net.nodes → v ∈ closure net door J
    closure-all J v d l = has-closure J v l ∙ or_left (has (held net J) door) (not (has (outside net door (held net J)) v)) d

    pub closure-out : (J v : ℕ) → door ∉ held net J → v < net.nodes → v ∉ closure net door J → Chain Live (λ x. x ∉ held net J) v door
    closure-out J v d l o =
        outside-chain (held net J) v d (not-false (has (outside net door (held net J)) v)
        (or_parts (has (held net J) door) (not (has (outside net door (held net J)) v)) (sym (has-closure J v l) ∙ o)).1)

    pub closure-none : (J v : ℕ) → door ∉ held net J → v < net.nodes → v ∈ closure net door J → Chain Live (λ x. x ∉ held net J) v door → ⊥
    closure-none J v d l i c = elim (or_cases (has (held net J) door) (not (has (outside net door (held net J)) v)) (sym (has-closure J v l) ∙ i)) [
      | inl t ↦ clash d t
      | inr t ↦ clash (not-true (has (outside net door (held net J)) v) t) (chain-outside (held net J) v c)
    ]

    pub closure-in : (J v : ℕ) → v < net.nodes → (Chain Live (λ x. x ∉ held net J) v door → ⊥) → v ∈ closure net door J
    closure-in J v l h = elim (cases_Bool (has (held net J) door)) [
      | inl t ↦ closure-all J v t l
      | inr d ↦ certain (λ o. h (closure-out J v d l o))
    ]
