-- Each layer's meaning is legal, if those below it are.
use Rattle.std.specs.Prelude.{◌≡◌, ℕ, zero, suc, ◌+◌, ◌-◌, ◌<◌, Bool, true, false, cond, List, [], ◌∷◌, length, nat_le, nat_lt, refl}
use Rattle.std.proofs.Common.{ap, ap₂, arith}
use Rattle.std.specs.List.{AllByRecursion}
use Rattle.std.proofs.ByRecursion.{All-append, All-map, All-weaker}
use Rattle.std.proofs.lemmas.List.{length-append, length-map}
use Rattle.std.proofs.lemmas.Bool.{and_parts, cond_both, leb-true, ltb-true}
use Rattle.network.specs.declared.branch.Branch.{Branch}
use Rattle.network.specs.declared.branch.Condition.{Condition}
use Rattle.network.specs.declared.rating.Rating.{Rating}
use Rattle.network.specs.Meaning.{Net, RatedNet, Within, Legal, LegalRated, empty_net}
use Rattle.layers.specs.Meaning.{retold_at, retold, retold_rated, moved_node, moved, joint_fits, joint_net, joint_rated}
use Rattle.layers.specs.Laws.{Joinable}

-- one branch told as another condition

module _ (c : Condition) where
  pub length-retold_at : (k : ℕ) (bs : List Branch) → length (retold_at c k bs) ≡ length bs
  length-retold_at k [] = refl
  length-retold_at zero (b ∷ bs) = refl
  length-retold_at (suc k) (b ∷ bs) = ap suc (length-retold_at k bs)

  all-retold_at : (n k : ℕ) (bs : List Branch) → AllByRecursion (Within n) bs → AllByRecursion (Within n) (retold_at c k bs)
  all-retold_at n k [] h = h
  all-retold_at n zero (b ∷ bs) h = h
  all-retold_at n (suc k) (b ∷ bs) h = (h.0, all-retold_at n k bs h.1)

  pub legal-retold : (k : ℕ) (net : Net) → Legal net → Legal (retold c k net)
  legal-retold k net h = record {
    nodes = h.nodes;
    branches = rw (length-retold_at k net.branches) h.branches;
    ends = all-retold_at net.nodes k net.branches h.ends;
  }

  pub legal-retold_rated : (k : ℕ) (net : RatedNet) → LegalRated net → LegalRated (retold_rated c k net)
  legal-retold_rated k net h = record {
    plain = legal-retold k net.plain h.plain;
    each = rw (length-retold_at k net.plain.branches) h.each;
  }

-- two networks joined at a node

moved-below : (n m j i : ℕ) → j < n → i < m → moved_node n j i < n + m - 1
moved-below n m j zero at below = omega arith
moved-below n m j (suc i) at below = omega arith

-- the test of a joint as facts
pub joinable-when : (j : ℕ) (p q : Net) → joint_fits j p q ≡ true → Joinable j p q
joinable-when j p q e =
    let t = and_parts (nat_lt j p.nodes) _ e in
    let u = and_parts (nat_lt 0 q.nodes) _ t.1 in
    let v = and_parts (nat_le (p.nodes + q.nodes - 1) 32) _ u.1 in
    record {
      node = ltb-true _ _ t.0;
      some = ltb-true _ _ u.0;
      nodes = leb-true _ _ v.0;
      branches = leb-true _ _ v.1;
    }

pub legal-joint : (j : ℕ) (p q : Net) → Legal p → Legal q → Legal (joint_net j p q)
legal-joint j p q hp hq =
    cond_both (joint_fits j p q) _ empty_net Legal (λ e. let f = joinable-when j p q e in record {
      nodes = f.nodes;
      branches = simp (length-append, length-map) f.branches;
      ends =
          All-append _ p.branches _
          (All-weaker _ _ (λ b w. (omega (arith, f.some), omega (arith, f.some))) p.branches hp.ends)
          (All-map _ (moved p.nodes j) q.branches
          (All-weaker _ _ (λ b w. (moved-below _ _ j b.from f.node w.0, moved-below _ _ j b.to f.node w.1)) q.branches hq.ends));
    }) (λ _. record { nodes = omega arith; branches = omega arith; ends = tt })

each-cond : (t : Bool) (rs : List Rating) (net : Net) → length rs ≡ length net.branches → length (cond t rs []) ≡ length (cond t net empty_net).branches
each-cond true rs net e = e
each-cond false rs net e = refl

pub legal-joint_rated : (j : ℕ) (p q : RatedNet) → LegalRated p → LegalRated q → LegalRated (joint_rated j p q)
legal-joint_rated j p q hp hq = record {
  plain = legal-joint j p.plain q.plain hp.plain hq.plain;
  each = each-cond (joint_fits j p.plain q.plain) _ _ (simp (length-append, length-map) (ap₂ ◌+◌ hp.each hq.each));
}
