use Rattle.std.proofs.Common.{rules}
use Rattle.engine.proofs.Runs.{leads_on}
use Rattle.engine.proofs.study.Study.aim.Goals as goal

pub returns-in_err-head-clause-run : goal.returns-in_err-head-clause-run
returns-in_err-head-clause-run g c = leads_on _ (g.N.Network.legal c.args.network.now) _ _ _ (search rules)

pub returns-in_err-check_door-clause-run : goal.returns-in_err-check_door-clause-run
returns-in_err-check_door-clause-run g c = leads_on _ (g.N.Network.legal c.args.network.now) _ _ _ (search rules)

pub returns-clause-run : goal.returns-clause-run
returns-clause-run g c = leads_on _ (g.N.Network.legal c.args.network.now) _ _ _ (search rules)
