use Rattle.std.proofs.Common.{sym, ◌∙◌, length-append}
use Rattle.network.proofs.Numbered.{given_none, given-all, given-next}
use Rattle.search.proofs.Walks.{met-none, met-yes, met-no, touching-is}
use Rattle.search.proofs.reach.touching.Goals as goal

pub loop-b-init : goal.loop-b-init
loop-b-init g c =
    let net = g.N.Network.net c.args.network.now in
    (given_none net.branches _ (c.into_iter-b-iterator.ensures.into_iter_gives ∙ c.branches_of-b-items.ensures), c.new-met.ensures ∙ met-none c.args.over net c.args.set)

pub loop-b-preserved : goal.loop-b-preserved
loop-b-preserved g c =
    let net = g.N.Network.net c.args.network.now in
    let next = given-next net.branches _ _ c.loop-b.invariant.0 _ _ _ c.in-Some.ensures.steps in
    simp length-append (next.2, met-no c.args.over net c.args.set _ c.loop-b.met c.in-Some.b next.1 (sym c.if-allows.ensures) c.loop-b.invariant.1)

pub loop-b-preserved-then-allows : goal.loop-b-preserved-then-allows
loop-b-preserved-then-allows g c =
    let net = g.N.Network.net c.args.network.now in
    let next = given-next net.branches _ _ c.loop-b.invariant.0 _ _ _ c.in-Some.ensures.steps in
    simp length-append (next.2, c.bitor-met.ensures ∙ met-yes c.args.over net c.args.set _ c.loop-b.met _ c.in-Some.b next.1 (sym c.if-allows.ensures) c.loop-b.invariant.1 c.joined_by.ensures)

pub returns : goal.returns
returns g c =
    let net = g.N.Network.net c.args.network.now in
    touching-is c.args.over net (g.N.Network.legal c.args.network.now) c.args.set _ c.loop-b.met (given-all net.branches _ _ c.loop-b.invariant.0 c.in-None.ensures.steps.0) c.loop-b.invariant.1
