use Rattle.std.proofs.Common.{sym, refl, ◌∙◌, length, length-append}
use Rattle.network.proofs.Numbered.{given_none, given-all, given-next}
use Rattle.sets.proofs.Nth.{below-some}
use Rattle.sets.proofs.Shifts.{collect-none, collect-no}
use Rattle.search.specs.Search.{crossing}
use Rattle.search.proofs.RowSets.{crossing_is, crossed-more, branch-set-is}
use Rattle.search.proofs.cut.branch_set_of.Goals as goal

pub loop-k-init : goal.loop-k-init
loop-k-init g c =
    let net = g.N.Network.net c.args.network.now in
    (given_none net.branches _ (c.into_iter-k-iterator.ensures.into_iter_gives ∙ c.branches_of-k-items.ensures), c.new-set.ensures ∙ sym (collect-none (crossing net c.args.row.now.inside)))

pub loop-k-preserved : goal.loop-k-preserved
loop-k-preserved g c =
    let net = g.N.Network.net c.args.network.now in
    let K = c.args.row.now.inside in
    let next = given-next net.branches _ _ c.loop-k.invariant.0 _ _ _ c.in-Some.ensures.steps in
    simp length-append (next.2, c.loop-k.invariant.1 ∙ sym (collect-no _ (crossing net K) (crossing_is net K _ c.in-Some.b next.1 ∙ sym c.if-is_parted.ensures)))

pub loop-k-preserved-then-is_parted : goal.loop-k-preserved-then-is_parted
loop-k-preserved-then-is_parted g c =
    let net = g.N.Network.net c.args.network.now in
    let K = c.args.row.now.inside in
    let next = given-next net.branches _ _ c.loop-k.invariant.0 _ _ _ c.in-Some.ensures.steps in
    simp length-append (next.2, c.insert.ensures ∙ crossed-more net (g.N.Network.legal c.args.network.now) K _ c.loop-k.set _ (below-some net.branches _ _ next.1) (crossing_is net K _ c.in-Some.b next.1 ∙ sym c.if-is_parted.ensures) c.loop-k.invariant.1 (rw (sym next.0) refl))

pub returns : goal.returns
returns g c =
    let net = g.N.Network.net c.args.network.now in
    branch-set-is net c.args.row.now (length c.loop-k.yielded) c.loop-k.set (given-all net.branches _ _ c.loop-k.invariant.0 c.in-None.ensures.steps.0) c.loop-k.invariant.1
