-- The sides of minimal cuts: the sets of nodes that closures are.
use Rattle.std.proofs.Common.{◌≡◌, ℕ, ◌^◌, ◌<◌, false, not, ◌&&◌, inl, inr}
use Rattle.std.proofs.lemmas.Bool.{cases_Bool, and_from, not-false, not_from_true, not_from_false}
use Rattle.search.specs.declared.row.Row.{Row}
use Rattle.sets.specs.Masks.{has, ◌∈◌, ◌∉◌}
use Rattle.network.specs.Meaning.{Net, Legal}
use Rattle.search.specs.Cuts.{Link, Chain, here, step, sure, present}
use Rattle.search.specs.Search.{held, closure, candidate, touches}
use Rattle.sets.proofs.Members.{clash, refuted, certain, below-mask}
use Rattle.search.proofs.Chains.{starts, ends, append, back, moved, kept, leaves}
use Rattle.search.proofs.Links.{touches-in, link_back, link-below, firm_live, held_small, held_more, held-firm, held-chain, closure-small, closure-out, closure-none, closure-in}

-- where a link leads out of J, its inner end is chained to the head inside J
abbrev pub Rooted : Net → ℕ → ℕ → Type 0
Rooted net head J = (u v : ℕ) → u ∈ J → v ∉ J → Link net (present net) u v → Chain (Link net (present net)) (λ x. x ∈ J) u head

pub record Side (net : Net) (head door K : ℕ) : Type 0 where
  pub small : K < 2 ^ net.nodes
  pub head_in : head ∈ K
  pub door_out : door ∉ K
  -- no working branch leads out
  pub firm : (u v : ℕ) → u ∈ K → Link net (sure net) u v → v ∈ K
  -- each node outside is chained to the door outside
  pub outer : (v : ℕ) → v < net.nodes → v ∉ K → Chain (Link net (present net)) (λ x. x ∉ K) v door
  pub rooted : Rooted net head K

pub out_of : (J K x : ℕ) → (x ∈ J → x ∈ K) → x ∉ K → x ∉ J
out_of J K x h o = refuted (λ t. clash o (h t))

module _ {net : Net} (legal : Legal net) where
  live_back : (u v : ℕ) → Link net (present net) u v → Link net (present net) v u
  live_back = link_back net (present net)

  firm-is-live : (u v : ℕ) → Link net (sure net) u v → Link net (present net) u v
  firm-is-live = firm_live legal

  held-part : (J : ℕ) → J < 2 ^ net.nodes → (x : ℕ) → x ∈ J → x ∈ held net J
  held-part J s x i = held_more legal J x (below-mask net.nodes J x s i) i

  pub held-rooted : {head : ℕ} (J : ℕ) → J < 2 ^ net.nodes → Rooted net head J → Rooted net head (held net J)
  held-rooted J s h u v i o r = elim (cases_Bool (has J u)) [
    | inl t ↦ moved (λ x y _ _ l. l) (held-part J s) (h u v t (out_of J (held net J) v (held-part J s v) o) r)
    | inr t ↦
        let (w, j, c) = held-chain legal J u i in
        let l = leaves (has J) j t c in
        append (back live_back (moved (λ x y _ _ q. firm-is-live x y q) (λ x p. p) l.rest))
        (step (starts l.rest) (live_back l.x l.y (firm-is-live l.x l.y l.link))
        (moved (λ x y _ _ q. q) (held-part J s) (h l.x l.y l.in_x l.out_y (firm-is-live l.x l.y l.link))))
  ]

  module _ {door : ℕ} (door_below : door < net.nodes) where
    module _ (J : ℕ) (s : J < 2 ^ net.nodes) where
      held-inside : (x : ℕ) → x ∈ held net J → x ∈ closure net door J
      held-inside x i = closure-in legal door_below J x (below-mask net.nodes (held net J) x (held_small legal J s) i) (λ c. clash (starts c) i)

      pub closure-more : (x : ℕ) → x ∈ J → x ∈ closure net door J
      closure-more x i = held-inside x (held-part J s x i)

      in-closure : (x : ℕ) → x ∈ closure net door J → x < net.nodes
      in-closure x i = below-mask net.nodes (closure net door J) x (closure-small legal door_below J) i

      -- a link out of the closure starts at what is held
      pub closure-edge : door ∉ held net J → (u v : ℕ) → u ∈ closure net door J → v ∉ closure net door J → Link net (present net) u v → (u ∈ held net J) × (v ∉ held net J)
      closure-edge d u v i o r =
          let c = closure-out legal door_below J v d (link-below legal (present net) u v r).1 o in
          elim (cases_Bool (has (held net J) u)) [
            | inl k ↦ (k, starts c)
            | inr k ↦ absurd (closure-none legal door_below J u d (in-closure u i) i (step k r c))
          ]

      -- the closure of a set that is chained to the head is a side
      pub closure-side : {head : ℕ} → head ∈ J → Rooted net head J → door ∉ held net J → Side net head door (closure net door J)
      closure-side {head} hd rt d = record {
        small = closure-small legal door_below J;
        head_in = closure-more head hd;
        door_out = beyond door (here d);
        firm = λ u v i r. elim (cases_Bool (has C v)) [
          | inl t ↦ t
          | inr t ↦
              let c = out v (link-below legal (sure net) u v r).1 t in
              elim (cases_Bool (has (held net J) u)) [
                | inl k ↦ absurd (clash (starts c) (held-firm legal J u v k r))
                | inr k ↦ absurd (clash (beyond u (step k (firm-is-live u v r) c)) i)
              ]
        ];
        outer = λ v l o. kept (λ x. x ∉ C) (λ x y p q r k. beyond y (step q (live_back x y r) (out x (link-below legal (present net) x y r).0 k))) o (out v l o);
        rooted = λ u v i o r. let e = closure-edge d u v i o r in moved (λ x y _ _ q. q) held-inside (held-rooted J s rt u v e.0 e.1 r);
      }
        where
          C : ℕ
          C = closure net door J

          out : (v : ℕ) → v < net.nodes → v ∉ closure net door J → Chain (Link net (present net)) (λ x. x ∉ held net J) v door
          out v l o = closure-out legal door_below J v d l o

          beyond : (v : ℕ) → Chain (Link net (present net)) (λ x. x ∉ held net J) v door → v ∉ closure net door J
          beyond v c = refuted (λ t. closure-none legal door_below J v d (in-closure v t) t c)

      -- and the least one that holds the set
      pub closure-least : {head : ℕ} (K : ℕ) → Side net head door K → ((x : ℕ) → x ∈ J → x ∈ K) → (x : ℕ) → x ∈ closure net door J → x ∈ K
      closure-least K k h x i = certain (λ t. closure-none legal door_below J x d (in-closure x i) i
          (moved (λ _ _ _ _ r. r) (λ y o. out_of (held net J) K y (all y) o) (k.outer x (in-closure x i) t)))
        where
          all : (y : ℕ) → y ∈ held net J → y ∈ K
          all y j = let (w, q, c) = held-chain legal J y j in ends (kept (λ z. z ∈ K) (λ u v _ _ r m. k.firm u v m r) (h w q) c)

          d : door ∉ held net J
          d = out_of (held net J) K door (all door) k.door_out

    -- a row with no candidate has no side but its own inside
    pub alone : {head : ℕ} (r : Row) (K : ℕ) → Side net head door r.inside → Side net head door K
        → ((x : ℕ) → x ∈ r.inside → x ∈ K) → ((x : ℕ) → x ∈ K → x ∉ r.barred)
        → ((v : ℕ) → v < net.nodes → candidate net r v ≡ false) → (x : ℕ) → x ∈ K → x ∈ r.inside
    unfolding candidate
    alone {head} r K i k sub clear none x h = certain (λ t. let l = leaves (has K) h k.door_out (i.outer x (below-mask net.nodes K x k.small h) t) in
        let m = leaves (λ z. not (has r.inside z)) (not_from_false (has r.inside l.x) l.within) (not_from_true (has r.inside head) i.head_in)
        (k.rooted l.x l.y l.in_x l.out_y l.link) in
        clash (none m.x (link-below legal (present net) m.x m.y m.link).0)
        (and_from (not (has r.inside m.x) && not (has r.barred m.x)) (touches net (present net) r.inside m.x)
        (and_from (not (has r.inside m.x)) (not (has r.barred m.x)) m.in_x (not_from_false (has r.barred m.x) (clear m.x m.within)))
        (touches-in net (present net) r.inside m.y m.x (not-false (has r.inside m.y) m.out_y) (live_back m.x m.y m.link))))

-- a side of one door is a side of each node outside it
pub side-moves : (net : Net) (head door K x : ℕ) → Side net head door K → x < net.nodes → x ∉ K → Side net head x K
side-moves net head door K x k l o = record {
  small = k.small;
  head_in = k.head_in;
  door_out = o;
  firm = k.firm;
  rooted = k.rooted;
  outer = λ v m p. append (k.outer v m p) (back (link_back net (present net)) (k.outer x l o));
}
