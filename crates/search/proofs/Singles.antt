-- The set of one node, nodes in common, and the ends of a branch.
use Rattle.std.proofs.Common.{◌≡◌, ℕ, ◌^◌, ◌<◌, true, false, ◌&&◌, eqb, sym, refl, ◌∙◌, arith}
use Rattle.std.proofs.lemmas.Nat.{pow_below}
use Rattle.std.proofs.ByRecursion.{All-get_or}
use Rattle.std.proofs.lemmas.Bool.{and_parts, and_from, eq-eqb, eqb-true}
use Rattle.network.specs.Meaning.{Net, Legal, Within}
use Rattle.sets.specs.Masks.{has, ◌∈◌, ◌∉◌}
use Rattle.sets.proofs.Members.{clash, refuted, has-collect, collect-small, below-mask, decides-any}
use Rattle.sets.proofs.Widths.{single-is}
use Rattle.search.specs.Cuts.{branch, branches_of}
use Rattle.search.specs.Search.{single, share}

-- a branch below the count ends at nodes
pub ends-below : {net : Net} → Legal net → (k : ℕ) → k < branches_of net → Within net.nodes (branch net k)
ends-below {net} legal k l = All-get_or (Within net.nodes) net.branches k _ l legal.ends

pub single-out : (w v : ℕ) → v ∈ single w → v ≡ w
single-out w v h =
    let l = below-mask 32 (single w) v (collect-small 32 (λ x. eqb x w)) h in
    eqb-true v w (sym (has-collect 32 (λ x. eqb x w) v l) ∙ h)

pub single-not : (w v : ℕ) → (v ≡ w → ⊥) → v ∉ single w
single-not w v n = refuted (λ h. n (single-out w v h))

pub single-in : {net : Net} → Legal net → (v : ℕ) → v < net.nodes → v ∈ single v
single-in legal v l = has-collect 32 (λ x. eqb x v) v (let p = legal.nodes in omega arith) ∙ eq-eqb v v refl

pub single-small : {net : Net} → Legal net → (v : ℕ) → v < net.nodes → single v < 2 ^ net.nodes
single-small {net} legal v l = rw (← single-is 32 v (let p = legal.nodes in omega arith)) (pow_below v net.nodes l)

-- a node of both sets, and sets with none in common
pub share_in : (S T v : ℕ) → v < 32 → v ∈ S → v ∈ T → share S T ≡ true
share_in S T v l i j = (decides-any (λ v. has S v && has T v) 32).1 (v, l, and_from (has S v) (has T v) i j)

pub share-out : (S T : ℕ) → ((v : ℕ) → v ∈ S → v ∉ T) → share S T ≡ false
share-out S T h = refuted (λ t.
    let (v, l, b) = (decides-any (λ v. has S v && has T v) 32).0 t in
    let p = and_parts (has S v) (has T v) b in
    clash (h v p.0) p.1)
