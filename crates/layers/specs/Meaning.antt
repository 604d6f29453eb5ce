-- What the layers mean, from the networks below them.
use Rattle.std.specs.Prelude.{ℕ, zero, suc, ◌+◌, ◌-◌, Bool, cond, ◌&&◌, List, [], ◌∷◌, ◌++◌, map, length, nat_le, nat_lt}
use Rattle.network.specs.declared.branch.Branch.{Branch}
use Rattle.network.specs.declared.branch.Condition.{Condition}
use Rattle.network.specs.Meaning.{Net, RatedNet, empty_net}

-- One branch told as another condition; with no such branch, the network as it is.

abbrev pub told : Condition → Branch → Branch
told c b = record { from = b.from; to = b.to; condition = c }

abbrev pub retold_at : Condition → ℕ → List Branch → List Branch
retold_at c k [] = []
retold_at c zero (b ∷ bs) = told c b ∷ bs
retold_at c (suc k) (b ∷ bs) = b ∷ retold_at c k bs

abbrev pub retold : Condition → ℕ → Net → Net
retold c k net = record { nodes = net.nodes; branches = retold_at c k net.branches }

abbrev pub retold_rated : Condition → ℕ → RatedNet → RatedNet
retold_rated c k net = record { plain = retold c k net.plain; ratings = net.ratings }

-- Two networks joined: node 0 of the second becomes node j of the first, which has n nodes.

abbrev pub moved_node : ℕ → ℕ → ℕ → ℕ
moved_node n j zero = j
moved_node n j (suc i) = n + i

abbrev pub moved : ℕ → ℕ → Branch → Branch
moved n j b = record { from = moved_node n j b.from; to = moved_node n j b.to; condition = b.condition }

-- the first has a node j, the second has a node, and together they keep to 32 nodes and 64 branches
abbrev pub joint_fits : ℕ → Net → Net → Bool
joint_fits j p q =
    nat_lt j p.nodes && (nat_lt 0 q.nodes && (nat_le (p.nodes + q.nodes - 1) 32 && nat_le (length p.branches + length q.branches) 64))

abbrev pub joint_net : ℕ → Net → Net → Net
joint_net j p q =
    cond (joint_fits j p q) (record {
      nodes = p.nodes + q.nodes - 1;
      branches = p.branches ++ map (moved p.nodes j) q.branches;
    }) empty_net

abbrev pub joint_rated : ℕ → RatedNet → RatedNet → RatedNet
joint_rated j p q = record {
  plain = joint_net j p.plain q.plain;
  ratings = cond (joint_fits j p.plain q.plain) (p.ratings ++ q.ratings) [];
}
