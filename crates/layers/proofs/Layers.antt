-- The laws of the layers.
use Rattle.std.proofs.Common.{◌≡◌, ℕ, zero, suc, ◌+◌, ◌-◌, ◌<◌, ◌≤◌, true, false, cond, eqb, List, [], ◌∷◌, ◌++◌, length, sym, refl, ap, ◌∙◌, ⊎_elim, arith}
use Rattle.std.specs.List.{slice_get}
use Rattle.std.specs.Option.{option_map}
use Rattle.std.proofs.lemmas.List.{length-append, length-map}
use Rattle.std.proofs.lemmas.Option.{slice_get_past}
use Rattle.std.proofs.lemmas.Bool.{cond-true, cond-false, eq-eqb, ne_eqb, and_from, lt-ltb, le-leb, cases_Bool}
use Rattle.sets.proofs.Nth.{mapped-id, nth-map, nth-append-left, nth-append-add}
use Rattle.network.specs.declared.branch.Branch.{Branch}
use Rattle.network.specs.declared.branch.Condition.{Condition}
use Rattle.network.specs.Meaning.{Net, RatedNet, LegalRated}
use Rattle.layers.specs.Meaning.{told, retold_at, retold, moved_node, moved, joint_fits, joint_net, joint_rated}
use Rattle.layers.specs.Laws.{Marked, MarkedBranch, Joinable, Renumbered, Joined, JoinedBranch, JoinedRating}
use Rattle.layers.specs.Legality.{length-retold_at, joinable-when}
use Rattle.layers.proofs.Retold.{nth-retold_at}

retold_at-past : (c : Condition) (k : ℕ) (bs : List Branch) → length bs ≤ k → retold_at c k bs ≡ bs
retold_at-past c k [] h = refl
retold_at-past c zero (b ∷ bs) h = absurd (omega arith)
retold_at-past c (suc k) (b ∷ bs) h = ap (λ xs. b ∷ xs) (retold_at-past c k bs (omega arith))

pub marked-retold : (c : Condition) (k : ℕ) (net : Net) → Marked c k net (retold c k net)
marked-retold c k net = record {
  the_nodes_are_those_below = refl;
  the_count_is_that_below = length-retold_at c k net.branches;
  branch_k_keeps_its_ends = λ b e. nth-retold_at c k k net.branches ∙ simp (eq-eqb k k refl) (ap (option_map (told c)) e);
  other_branches_stay = λ j apart. nth-retold_at c k j net.branches ∙ simp (ne_eqb j k apart) (sym (mapped-id (slice_get net.branches j)));
  past_the_count_nothing_changes = λ h. ap (λ bs. record { nodes = net.nodes; branches = bs }) (retold_at-past c k net.branches h);
  ratings_are_carried_along = λ rated. refl;
}

pub marked-branch : (c : Condition) (j k : ℕ) (bs : List Branch) → MarkedBranch c j k (slice_get bs k) (slice_get (retold_at c j bs) k)
marked-branch c j k bs = record {
  the_marked_branch_keeps_its_ends = λ here b e. nth-retold_at c j k bs ∙ simp (eq-eqb k j here) (ap (option_map (told c)) e);
  other_branches_stay = λ apart. nth-retold_at c j k bs ∙ simp (ne_eqb k j apart) (sym (mapped-id (slice_get bs k)));
  past_the_count_there_is_none = λ e. nth-retold_at c j k bs ∙ ap (option_map (λ b. cond (eqb k j) (told c b) b)) e;
}

fits-when : (j : ℕ) (p q : Net) → Joinable j p q → joint_fits j p q ≡ true
fits-when j p q f =
    and_from _ _ (lt-ltb j p.nodes f.node) (and_from _ _ (lt-ltb 0 q.nodes f.some) (and_from _ _ (le-leb (p.nodes + q.nodes - 1) 32 f.nodes) (le-leb (length p.branches + length q.branches) 64 f.branches)))

renumbered : (n j i : ℕ) → Renumbered n j i (moved_node n j i)
renumbered n j zero = record { node_0_becomes_j = λ _. refl; others_follow_the_first = λ h. absurd (omega arith) }
renumbered n j (suc i) = record { node_0_becomes_j = λ e. absurd (omega arith); others_follow_the_first = λ _. omega arith }

pub joined-joint : (j : ℕ) (p q : Net) → Joined j p q (joint_net j p q)
joined-joint j p q = record {
  nodes_are_counted_once = λ f. rw (cond-true _ _ _ (fits-when j p q f)) refl;
  every_branch_is_there = λ f. rw (cond-true _ _ _ (fits-when j p q f)) (simp (length-append, length-map));
  branches_of_the_first_stay = λ f k h. rw (cond-true _ _ _ (fits-when j p q f)) (nth-append-left p.branches _ k h);
  branches_of_the_second_follow = λ f k b e. (
    moved p.nodes j b,
    rw (cond-true _ _ _ (fits-when j p q f)) (nth-append-add p.branches _ k ∙ nth-map (moved p.nodes j) q.branches k ∙ ap (option_map (moved p.nodes j)) e),
    record { from = renumbered p.nodes j b.from; to = renumbered p.nodes j b.to; condition = refl },
  );
  else_it_is_empty = λ none. ⊎_elim (λ t. absurd (none (joinable-when j p q t))) (λ t. cond-false _ _ _ t) (cases_Bool (joint_fits j p q));
  ratings_are_carried_along = λ r s er es each f k.
      let fits : joint_fits j r.plain s.plain ≡ true = rw (er, es) (fits-when j p q f) in (
        λ h. rw (cond-true _ _ _ fits) (nth-append-left r.ratings s.ratings k (omega arith)),
        rw (cond-true _ _ _ fits) (rw (sym each) (nth-append-add r.ratings s.ratings k)),
      );
}

pub joined-branch : (j : ℕ) (p q : Net) (k : ℕ) → JoinedBranch j p q k (slice_get (joint_net j p q).branches k)
joined-branch j p q k =
    let law = joined-joint j p q in
    record {
      branches_of_the_first_stay = λ f h. law.branches_of_the_first_stay f k h;
      branches_of_the_second_follow = λ f i b e found. rw e (law.branches_of_the_second_follow f i b found);
      past_both_there_is_none = λ f h. slice_get_past (joint_net j p q).branches k (omega (arith, law.every_branch_is_there f));
      else_there_is_none = λ none. ap (λ net. slice_get net.branches k) (law.else_it_is_empty none);
    }

-- the ratings of a joint, by the two networks as `Network` tells them
pub joined-rating : (j : ℕ) (p q : RatedNet) (first second : Net) (k : ℕ) → LegalRated p → p.plain ≡ first → q.plain ≡ second → JoinedRating j first second p.ratings q.ratings k (slice_get (joint_rated j p q).ratings k)
joined-rating j p q first second k legal ep eq = record {
  ratings_of_the_first_stay = λ f h. (carried f k).0 h;
  ratings_of_the_second_follow = λ f i e. rw e (carried f i).1;
  else_there_is_none = λ none. ap (λ t. slice_get (cond t (p.ratings ++ q.ratings) []) k) (apart none);
}
  where
    carried : Joinable j first second → (i : ℕ) → (i < length first.branches → slice_get (joint_rated j p q).ratings i ≡ slice_get p.ratings i)
        × (slice_get (joint_rated j p q).ratings (length first.branches + i) ≡ slice_get q.ratings i)
    carried f = (joined-joint j first second).ratings_are_carried_along p q ep eq (legal.each ∙ ap (λ n. length n.branches) ep) f

    apart : (Joinable j first second → ⊥) → joint_fits j p.plain q.plain ≡ false
    apart none = ⊎_elim (λ t. absurd (none (joinable-when j first second (rw (ep, eq) at t)))) (λ t. t) (cases_Bool (joint_fits j p.plain q.plain))
