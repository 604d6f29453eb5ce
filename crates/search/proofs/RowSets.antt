-- Closures, branch sets, node vectors and candidates as the code makes them.
use Rattle.std.proofs.Common.{◌≡◌, ℕ, zero, suc, ◌+◌, ◌-◌, ◌^◌, ◌<◌, ◌≤◌, Bool, true, false, not, ◌&&◌, ◌||◌, eqb, ltb, Some, sym, refl, ap, ◌∙◌, ap₂, inl, inr, arith}
use lib.Bits.{bit_or}
use Rattle.std.specs.List.{slice_get}
use Rattle.std.proofs.lemmas.Nat.{pow_pos}
use Rattle.std.proofs.lemmas.Bool.{cases_lt, lt-ltb, le-ltb, cond-true, cond-false}
use Rattle.std.proofs.lemmas.Bool.Decides.{nat_tests}
use Rattle.network.specs.declared.branch.Branch.{Branch}
use Rattle.network.specs.Meaning.{Net, Legal}
use Rattle.sets.specs.Masks.{has, collect, least, lowest, ◌∉◌}
use Rattle.sets.proofs.Members.{clash, has-none, has-collect, collect-small, least-is}
use Rattle.sets.proofs.Shifts.{collect-yes, least-unique}
use Rattle.sets.proofs.Collected.{has_first, is-collect, within-mask}
use Rattle.sets.proofs.Widths.{single-is}
use Rattle.search.specs.declared.row.Row.{Row}
use Rattle.search.specs.declared.reach.Over.{Over}
use Rattle.search.specs.declared.reach.Over.TheVariants.{Present, Sure}
use Rattle.search.specs.Cuts.{branches_of, present}
use Rattle.search.specs.Search.{single, touches, widened, spread, linked, held, outside, closure, crossing, branch_set, node_vector, candidate}
use Rattle.search.specs.Steps.{kept, avoiding, parts}
use Rattle.search.proofs.Walks.{answered, collect-same}

-- near in the same places, spread the same
widened_same : (n : ℕ) (near near' : ℕ → ℕ → Bool) → ((S v : ℕ) → near S v ≡ near' S v) → (S : ℕ) → widened n near S ≡ widened n near' S
unfolding widened
widened_same n near near' h S = collect-same n (λ v. has S v || near S v) (λ v. has S v || near' S v) (λ v l. ap (λ t. has S v || t) (h S v))

spread_same : (n : ℕ) (near near' : ℕ → ℕ → Bool) → ((S v : ℕ) → near S v ≡ near' S v) → (r S : ℕ) → spread n near r S ≡ spread n near' r S
unfolding spread
spread_same n near near' h zero S = refl
spread_same n near near' h (suc r) S = ap (spread n near r) (widened_same n near near' h S) ∙ spread_same n near near' h r (widened n near' S)

-- nothing to avoid
free-spread : (over : Over) (net : Net) (S : ℕ) → spread net.nodes (avoiding over net 0) net.nodes S ≡ spread net.nodes (touches net (kept over net)) net.nodes S
free-spread over net S = spread_same net.nodes (avoiding over net 0) (touches net (kept over net)) (λ T v. ap (λ t. not t && touches net (kept over net) T v) (has-none v)) net.nodes S

pub linked-is : (over : Over) (net : Net) (u v s R : ℕ) (r : Bool) → s ≡ single u → R ≡ spread net.nodes (avoiding over net 0) net.nodes s → r ≡ has R v → r ≡ linked net (kept over net) u v
unfolding linked
linked-is over net u v s R r e f h = h ∙ ap (λ q. has q v) (f ∙ ap (spread net.nodes (avoiding over net 0) net.nodes) e ∙ free-spread over net (single u))

pub held-is : (net : Net) (J : ℕ) → spread net.nodes (avoiding Sure net 0) net.nodes J ≡ held net J
unfolding held
held-is net J = free-spread Sure net J

pub outside-is : (net : Net) (door J s : ℕ) → s ≡ single door → spread net.nodes (avoiding Present net J) net.nodes s ≡ outside net door J
unfolding outside
outside-is net door J s e = ap (spread net.nodes (avoiding Present net J) net.nodes) e

-- what is left of the first n nodes
others-is : (n A K : ℕ) → n ≤ 32 → A ≡ 2 ^ n - 1 → collect 32 (λ v. has A v && not (has K v)) ≡ collect n (λ v. not (has K v))
others-is n A K l a = is-collect 32 n (collect 32 (λ v. has A v && not (has K v))) (λ v. not (has K v)) l (collect-small 32 _)
    (λ v h. has-collect 32 (λ v. has A v && not (has K v)) v (omega arith) ∙ ap (λ t. t && not (has K v)) (first v ∙ lt-ltb v n h))
    (λ v h. elim (cases_lt v 32) [
      | inl k ↦ has-collect 32 (λ v. has A v && not (has K v)) v k ∙ ap (λ t. t && not (has K v)) (first v ∙ le-ltb v n h)
      | inr k ↦ within-mask 32 _ v (collect-small 32 _) k
    ])
  where
    first : (v : ℕ) → has A v ≡ ltb v n
    first v = ap (λ q. has q v) a ∙ has_first n v

-- where the door is held, and where it is not
pub closure-whole : (net : Net) (door J A H : ℕ) → A ≡ 2 ^ net.nodes - 1 → H ≡ held net J → has H door ≡ true → A ≡ closure net door J
unfolding closure
closure-whole net door J A H a h d =
    let small : A < 2 ^ net.nodes = omega (arith, pow_pos net.nodes) in
    is-collect net.nodes net.nodes A (λ v. has (held net J) door || not (has (outside net door (held net J)) v)) (omega arith) small
    (λ v l. ap (λ q. has q v) a ∙ has_first net.nodes v ∙ lt-ltb v net.nodes l ∙ sym (ap (λ t. t || not (has (outside net door (held net J)) v)) (sym (ap (λ q. has q door) h) ∙ d)))
    (λ v l. within-mask net.nodes A v small l)

pub closure-rest : (net : Net) → Legal net → (door J A H O D : ℕ) → A ≡ 2 ^ net.nodes - 1 → H ≡ held net J → has H door ≡ false
    → O ≡ outside net door H → D ≡ collect 32 (λ v. has A v && not (has O v)) → D ≡ closure net door J
unfolding closure
closure-rest net legal door J A H O D a h d o q =
    q ∙ others-is net.nodes A O legal.nodes a
    ∙ collect-same net.nodes _ (λ v. has (held net J) door || not (has (outside net door (held net J)) v))
    (λ v l. ap (λ x. not (has x v)) (o ∙ ap (outside net door) h) ∙ sym (ap (λ t. t || not (has (outside net door (held net J)) v)) (sym (ap (λ x. has x door) h) ∙ d)))

-- one branch more of a branch set
pub crossing_is : (net : Net) (K k : ℕ) (b : Branch) → slice_get net.branches k ≡ Some b → crossing net K k ≡ parts K b
unfolding crossing
crossing_is net K k b e = ap (parts K) (sym (answered net k b e))

pub crossed-more : (net : Net) → Legal net → (K k S s : ℕ) → k < branches_of net → crossing net K k ≡ true → S ≡ collect k (crossing net K) → s ≡ collect 64 (λ v. eqb v k)
    → bit_or S s ≡ collect (k + 1) (crossing net K)
crossed-more net legal K k S s l t e f =
    ap₂ bit_or e (f ∙ sym (single-is 64 k (let p = legal.branches in omega arith))) ∙ sym (collect-yes k (crossing net K) t)

pub branch-set-is : (net : Net) (r : Row) (k S : ℕ) → k ≡ branches_of net → S ≡ collect k (crossing net r.inside) → S ≡ branch_set net r
unfolding branch_set
branch-set-is net r k S e h = h ∙ ap (λ n. collect n (crossing net r.inside)) e

pub node-vector-is : (net : Net) → Legal net → (r : Row) (A D : ℕ) → A ≡ 2 ^ net.nodes - 1 → D ≡ collect 32 (λ v. has A v && not (has r.inside v)) → D ≡ node_vector net r
unfolding node_vector
node-vector-is net legal r A D a d = d ∙ others-is net.nodes A r.inside legal.nodes a

turned : (a b c : Bool) → ((a && not b) && not c) ≡ (not b && not c && a)
turned a b c = grind (arith, nat_tests)

pub candidates-is : (net : Net) → Legal net → (r : Row) (T D E : ℕ) → T ≡ collect net.nodes (touches net (present net) r.inside)
    → D ≡ collect 32 (λ v. has T v && not (has r.inside v)) → E ≡ collect 32 (λ v. has D v && not (has r.barred v)) → E ≡ collect net.nodes (candidate net r)
unfolding candidate
candidates-is net legal r T D E t d e = e ∙ is-collect 32 net.nodes _ (candidate net r) legal.nodes (collect-small 32 _)
    (λ v l. both v (let p = legal.nodes in omega arith) ∙ ap (λ q. (q && not (has r.inside v)) && not (has r.barred v)) (ap (λ q. has q v) t ∙ has-collect net.nodes (touches net (present net) r.inside) v l)
    ∙ turned (touches net (present net) r.inside v) (has r.inside v) (has r.barred v))
    (λ v l. elim (cases_lt v 32) [
      | inl k ↦ both v k ∙ ap (λ q. (q && not (has r.inside v)) && not (has r.barred v)) (ap (λ q. has q v) t ∙ within-mask net.nodes _ v (collect-small net.nodes _) l)
      | inr k ↦ within-mask 32 _ v (collect-small 32 _) k
    ])
  where
    both : (v : ℕ) → v < 32 → has (collect 32 (λ v. has D v && not (has r.barred v))) v ≡ ((has T v && not (has r.inside v)) && not (has r.barred v))
    both v k = has-collect 32 (λ v. has D v && not (has r.barred v)) v k ∙ ap (λ q. q && not (has r.barred v)) (ap (λ q. has q v) d ∙ has-collect 32 (λ v. has T v && not (has r.inside v)) v k)

-- the lowest member of the set of those that pass
module _ (m n : ℕ) (f : ℕ → Bool) (S : ℕ) (few : n ≤ m) (e : S ≡ collect n f) where
  member : (v : ℕ) → v < n → has S v ≡ f v
  member v l = ap (λ q. has q v) e ∙ has-collect n f v l

  beyond : (v : ℕ) → n ≤ v → v ∉ S
  beyond v l = ap (λ q. has q v) e ∙ within-mask n (collect n f) v (collect-small n f) l

  pub lowest-is : lowest m (has S) ≡ lowest n f
  lowest-is = elim (cases_lt (least n f) n) [
    | inl l ↦
        let p = least-is n f in
        let q : least n f ≡ least m (has S) = least-unique m (has S) (least n f) (record {
          within = omega arith;
          passes = λ _. member (least n f) l ∙ p.passes l;
          before = λ v k. member v (omega arith) ∙ p.before v k;
        }) in
        cond-true (ltb (least m (has S)) m) _ _ (lt-ltb (least m (has S)) m (omega arith)) ∙ ap Some (sym q) ∙ sym (cond-true (ltb (least n f) n) _ _ (lt-ltb (least n f) n l))
    | inr h ↦ cond-false (ltb (least m (has S)) m) _ _ (le-ltb (least m (has S)) m (none h)) ∙ sym (cond-false (ltb (least n f) n) _ _ (le-ltb (least n f) n h))
  ]
    where
      none : n ≤ least n f → m ≤ least m (has S)
      none h = elim (cases_lt (least m (has S)) m) [
        | inr k ↦ k
        | inl k ↦ absurd (clash (elim (cases_lt (least m (has S)) n) [
          | inl l ↦ member (least m (has S)) l ∙ (least-is n f).before (least m (has S)) (omega arith)
          | inr l ↦ beyond (least m (has S)) l
        ]) ((least-is m (has S)).passes k))
      ]
