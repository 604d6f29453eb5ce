-- One branch of a walk, one round, and rounds until nothing is added.
use Rattle.std.proofs.Common.{◌≡◌, ℕ, zero, suc, ◌+◌, ◌-◌, ◌^◌, ◌<◌, ◌≤◌, Bool, true, false, not, ◌&&◌, ◌||◌, eqb, ltb, Some, sym, refl, ap, ◌∙◌, ap₂, inl, inr, add-one, arith}
use mathlib.Core.Bool.{and-true, and_comm, or_comm}
use lib.Bits.{bit_and, bit_or, and_le_r, or_lt}
use Rattle.std.specs.List.{slice_get}
use Rattle.std.proofs.lemmas.Nat.{pow_pos}
use Rattle.std.proofs.lemmas.Bool.{cases_lt, lt-ltb}
use Rattle.std.proofs.lemmas.Bool.Decides.{nat_tests}
use Rattle.network.specs.declared.branch.Branch.{Branch}
use Rattle.network.specs.Meaning.{Net, Legal}
use Rattle.sets.specs.Masks.{has, collect, any}
use Rattle.sets.proofs.Members.{refuted, same-mask, has-collect, collect-small, has-and, has-or, has-none}
use Rattle.sets.proofs.Collected.{has_first, is-collect, within-mask}
use Rattle.sets.proofs.Nth.{nth-is, at-left-more, at-left-none}
use Rattle.sets.proofs.Widths.{below-is}
use Rattle.search.specs.declared.reach.Over.{Over}
use Rattle.search.specs.Cuts.{branch, branches_of}
use Rattle.search.specs.Search.{single, meets, touches, widened, spread}
use Rattle.search.specs.Steps.{carries, kept, avoiding}
use Rattle.search.proofs.Links.{touches-out, link-below}

-- the branch that asking answered
pub answered : (net : Net) (k : ℕ) (b : Branch) → slice_get net.branches k ≡ Some b → b ≡ branch net k
answered net k b e = nth-is net.branches k b _ e

pub collect-same : (n : ℕ) (f f' : ℕ → Bool) → ((v : ℕ) → v < n → f v ≡ f' v) → collect n f ≡ collect n f'
collect-same n f f' h = is-collect n n (collect n f) f' (omega arith) (collect-small n f) (λ v l. has-collect n f v l ∙ h v l) (λ v l. within-mask n _ v (collect-small n f) l)

-- one branch more
any-more : (k : ℕ) (f : ℕ → Bool) → any (k + 1) f ≡ (f k || any k f)
unfolding any
any-more k f = rw add-one refl

any_none : (f : ℕ → Bool) → any 0 f ≡ false
unfolding any
any_none f = refl

-- an end joined, where the other end is a member
pub end_in : (w : ℕ) (t : Bool) → t ≡ true → single w ≡ collect 32 (λ v. eqb w v && t)
end_in w t e = rw e (collect-same 32 _ _ (λ v l. grind (arith, nat_tests)))

pub end_out : (w : ℕ) (t : Bool) → t ≡ false → 0 ≡ collect 32 (λ v. eqb w v && t)
end_out w t e = rw e (is-collect 32 32 0 (λ v. eqb w v && false) (omega arith) (pow_pos 32) (λ v _. has-none v ∙ grind (arith, nat_tests)) (λ v _. has-none v))

-- two sets united
pub or-collect : (n : ℕ) (f g : ℕ → Bool) → bit_or (collect n f) (collect n g) ≡ collect n (λ v. g v || f v)
or-collect n f g = same-mask n _ _ (or_lt n _ _ (collect-small n f) (collect-small n g)) (collect-small n _) (λ v l.
    has-or (collect n f) (collect n g) v ∙ or_comm (has (collect n f) v) (has (collect n g) v) ∙ ap₂ ◌||◌ (has-collect n g v l) (has-collect n f v l) ∙ sym (has-collect n (λ v. g v || f v) v l))

-- whether branch j may be used and joins v to a member of S
abbrev pub joins : Over → Net → ℕ → ℕ → ℕ → Bool
joins over net S v j = kept over net j && meets (branch net j) S v

-- the nodes that the first k branches join to S
abbrev pub met_of : Over → Net → ℕ → ℕ → ℕ
met_of over net S k = collect 32 (λ v. any k (joins over net S v))

pub met-none : (over : Over) (net : Net) (S : ℕ) → 0 ≡ met_of over net S 0
met-none over net S = is-collect 32 32 0 (λ v. any 0 (joins over net S v)) (omega arith) (pow_pos 32) (λ v _. has-none v ∙ sym (any_none _)) (λ v _. has-none v)

pub met-yes : (over : Over) (net : Net) (S k m j : ℕ) (b : Branch) → slice_get net.branches k ≡ Some b → carries over b.condition ≡ true
    → m ≡ met_of over net S k → j ≡ collect 32 (meets b S) → bit_or m j ≡ met_of over net S (k + 1)
met-yes over net S k m j b e t inv h =
    let q = answered net k b e in
    ap₂ bit_or inv h ∙ or-collect 32 (λ v. any k (joins over net S v)) (meets b S) ∙ collect-same 32 _ _ (λ v l.
    ap (λ u. u || any k (joins over net S v)) (ap (λ x. meets x S v) q ∙ sym (ap (λ u. u && meets (branch net k) S v) (sym (ap (λ x. carries over x.condition) q) ∙ t)))
    ∙ sym (any-more k (joins over net S v)))

pub met-no : (over : Over) (net : Net) (S k m : ℕ) (b : Branch) → slice_get net.branches k ≡ Some b → carries over b.condition ≡ false
    → m ≡ met_of over net S k → m ≡ met_of over net S (k + 1)
met-no over net S k m b e t inv =
    let q = answered net k b e in
    inv ∙ collect-same 32 _ _ (λ v l.
    sym (any-more k (joins over net S v) ∙ ap (λ u. (u && meets (branch net k) S v) || any k (joins over net S v)) (sym (ap (λ x. carries over x.condition) q) ∙ t)))

pub touching-is : (over : Over) (net : Net) → Legal net → (S k m : ℕ) → k ≡ branches_of net → m ≡ met_of over net S k → m ≡ collect net.nodes (touches net (kept over net) S)
unfolding touches
touching-is over net legal S k m e inv =
    let all : m ≡ collect 32 (touches net (kept over net) S) = inv ∙ ap (met_of over net S) e in
    all ∙ is-collect 32 net.nodes (collect 32 (touches net (kept over net) S)) (touches net (kept over net) S) legal.nodes (collect-small 32 _)
    (λ v l. has-collect 32 (touches net (kept over net) S) v (let p = legal.nodes in omega arith))
    (λ v h. elim (cases_lt v 32) [
      | inl k ↦ has-collect 32 (touches net (kept over net) S) v k ∙ refuted (λ t.
          let (u, i, r) = touches-out net (kept over net) S v t in
          let p = link-below legal (kept over net) u v r in omega arith)
      | inr k ↦ within-mask 32 _ v (collect-small 32 _) k
    ])

-- the mask of all nodes
pub nodes-mask : (net : Net) → Legal net → (n A : ℕ) → n ≡ net.nodes → A ≡ collect 32 (λ v. ltb v n) → A ≡ 2 ^ net.nodes - 1
nodes-mask net legal n A e a = a ∙ ap (λ q. collect 32 (λ v. ltb v q)) e ∙ sym (below-is 32 net.nodes legal.nodes)

-- one round
pub widen-is : (over : Over) (net : Net) → Legal net → (avoid S T D F : ℕ) → T ≡ collect net.nodes (touches net (kept over net) S)
    → D ≡ collect 32 (λ v. has T v && not (has avoid v)) → F ≡ 2 ^ net.nodes - 1
    → bit_and (bit_or S D) F ≡ widened net.nodes (avoiding over net avoid) S
unfolding widened
widen-is over net legal avoid S T D F t d all = is-collect net.nodes net.nodes (bit_and (bit_or S D) F) (λ v. has S v || avoiding over net avoid S v) (omega arith) small inner
    (λ v h. within-mask net.nodes (bit_and (bit_or S D) F) v small h)
  where
    small : bit_and (bit_or S D) F < 2 ^ net.nodes
    small = omega (arith, and_le_r (bit_or S D) F, all, pow_pos net.nodes)

    near : (v : ℕ) → v < net.nodes → has D v ≡ avoiding over net avoid S v
    near v l =
        ap (λ q. has q v) d ∙ has-collect 32 (λ v. has T v && not (has avoid v)) v (let p = legal.nodes in omega arith)
        ∙ ap (λ t. t && not (has avoid v)) (ap (λ q. has q v) t ∙ has-collect net.nodes (touches net (kept over net) S) v l) ∙ and_comm (touches net (kept over net) S v) (not (has avoid v))

    inner : (v : ℕ) → v < net.nodes → has (bit_and (bit_or S D) F) v ≡ (has S v || avoiding over net avoid S v)
    inner v l =
        has-and (bit_or S D) F v ∙ ap₂ ◌&&◌ (has-or S D v ∙ ap (λ t. has S v || t) (near v l)) (ap (λ q. has q v) all ∙ has_first net.nodes v ∙ lt-ltb v net.nodes l)
        ∙ and-true (has S v || avoiding over net avoid S v)

-- rounds
pub spread-fixed : (n : ℕ) (near : ℕ → ℕ → Bool) (r S : ℕ) → widened n near S ≡ S → spread n near r S ≡ S
unfolding spread
spread-fixed n near zero S e = refl
spread-fixed n near (suc r) S e = ap (spread n near r) e ∙ spread-fixed n near r S e

pub spread-one : (n : ℕ) (near : ℕ → ℕ → Bool) (e i S : ℕ) → i < e → spread n near (e - i) S ≡ spread n near (e - (i + 1)) (widened n near S)
unfolding spread
spread-one n near e i S l = at-left-more (λ r. spread n near r S) e i l

pub spread_none : (n : ℕ) (near : ℕ → ℕ → Bool) (e i S : ℕ) → e ≤ i → spread n near (e - i) S ≡ S
unfolding spread
spread_none n near e i S l = at-left-none (λ r. spread n near r S) e i l
