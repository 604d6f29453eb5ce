use Rattle.std.proofs.Common.{◌+◌, ◌-◌, sym, ap, ◌∙◌}
use Rattle.std.proofs.lemmas.Bool.{eqb-true}
use Rattle.search.specs.Search.{spread}
use Rattle.search.specs.Steps.{avoiding}
use Rattle.search.proofs.Walks.{spread-fixed, spread-one, spread_none}
use Rattle.search.proofs.reach.reach.Goals as goal

pub returns-then-eq : goal.returns-then-eq
returns-then-eq g c =
    let net = g.N.Network.net c.args.network.now in
    let near = avoiding c.args.over net c.args.avoid in
    sym (spread-fixed net.nodes near (c.nodes-end.result - c.loop.counter) c.loop.set (sym c.widen-wider.ensures ∙ eqb-true _ _ (sym c.if-eq.ensures))) ∙ c.loop.invariant

pub loop-preserved : goal.loop-preserved
loop-preserved g c =
    let net = g.N.Network.net c.args.network.now in
    let near = avoiding c.args.over net c.args.avoid in
    ap (spread net.nodes near (c.nodes-end.result - (c.loop.counter + 1))) c.widen-wider.ensures
    ∙ sym (spread-one net.nodes near c.nodes-end.result c.loop.counter c.loop.set c.loop-test.true) ∙ c.loop.invariant

pub returns : goal.returns
returns g c =
    let net = g.N.Network.net c.args.network.now in
    let near = avoiding c.args.over net c.args.avoid in
    sym (spread_none net.nodes near c.nodes-end.result c.loop.counter c.loop.set c.loop-test.false) ∙ c.loop.invariant
