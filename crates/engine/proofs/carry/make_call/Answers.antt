use Rattle.engine.proofs.Runs.{leads-on-soundly}
use Rattle.engine.proofs.carry.make_call.Goals as goal

pub returns-clause-law : goal.returns-clause-law
returns-clause-law g c =
    leads-on-soundly (g.N.RatedNetwork.rated c.args.network.now) (g.N.RatedNetwork.legal c.args.network.now) g.S.Scale.arithmetic g.met.S.Scale.rounded g.T.Scale.arithmetic g.met.T.Scale.rounded
    _ (g.met.N.RatedNetwork.same c.args.network.now) c.args.call _ _ c.answer_call.ensures.state
