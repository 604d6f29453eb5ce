use Rattle.std.proofs.Common.{rules}
use Rattle.engine.proofs.Runs.{leads_on}
use Rattle.engine.proofs.study.Study.show.Goals as goal

pub returns-in_err-door-clause-run : goal.returns-in_err-door-clause-run
returns-in_err-door-clause-run g c = leads_on _ (g.N.Network.legal c.args.network.now) _ _ _ (search rules)

pub returns-in_err-row-clause-run : goal.returns-in_err-row-clause-run
returns-in_err-row-clause-run g c = leads_on _ (g.N.Network.legal c.args.network.now) _ _ _ (search rules)

pub returns-clause-run : goal.returns-clause-run
returns-clause-run g c = leads_on _ (g.N.Network.legal c.args.network.now) _ _ _ (search rules)
