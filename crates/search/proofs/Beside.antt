-- Neighbours stand for the branch list.
use Rattle.std.proofs.Common.{◌≡◌, ℕ, ◌^◌, ◌<◌, Bool, true, sym, ap, ◌∙◌, inl, inr, arith}
use Rattle.std.proofs.lemmas.Bool.{cases_Bool}
use Rattle.network.specs.Meaning.{Net, Legal}
use Rattle.sets.specs.Masks.{has, ◌∈◌}
use Rattle.sets.proofs.Members.{clash, refuted, has-collect, collect-small, below-mask}
use Rattle.search.specs.Cuts.{Link}
use Rattle.search.specs.Search.{single, touches, neighbours}
use Rattle.search.specs.Statement.{NeighboursSuffice}
use Rattle.search.proofs.Singles.{single-in, single-out, share_in, share-out}
use Rattle.search.proofs.Links.{touches-out, touches-in, link-below}

module _ {net : Net} (legal : Legal net) (kept : ℕ → Bool) (v : ℕ) where
  beside-in : (u : ℕ) → Link net kept u v → u ∈ neighbours net kept v
  unfolding neighbours
  beside-in u r =
      let l = (link-below legal kept u v r).0 in
      has-collect net.nodes (λ u. touches net kept (single u) v) u l ∙ touches-in net kept (single u) u v (single-in legal u l) r

  beside-small : neighbours net kept v < 2 ^ net.nodes
  unfolding neighbours
  beside-small = collect-small net.nodes (λ u. touches net kept (single u) v)

  beside-out : (S u : ℕ) → u ∈ S → u ∈ neighbours net kept v → touches net kept S v ≡ true
  unfolding neighbours
  beside-out S u i b =
      let l = below-mask net.nodes (neighbours net kept v) u beside-small b in
      let (w, j, r) = touches-out net kept (single u) v (sym (has-collect net.nodes (λ u. touches net kept (single u) v) u l) ∙ b) in
      touches-in net kept S w v (ap (has S) (single-out u w j) ∙ i) r

pub neighbours-suffice : NeighboursSuffice
neighbours-suffice net kept legal S v = elim (cases_Bool (touches net kept S v)) [
  | inl t ↦
      let (u, i, r) = touches-out net kept S v t in
      t ∙ sym (share_in (neighbours net kept v) S u (let p = link-below legal kept u v r in let q = legal.nodes in omega arith) (beside-in legal kept v u r) i)
  | inr t ↦ t ∙ sym (share-out (neighbours net kept v) S (λ u b. refuted (λ i. clash t (beside-out legal kept v S u i b))))
]
