use Rattle.std.proofs.Common.{rules}
use Rattle.engine.proofs.Runs.{leads_on}
use Rattle.engine.proofs.study.Study.line.Goals as goal

pub returns-in_err-branches-clause-run : goal.returns-in_err-branches-clause-run
returns-in_err-branches-clause-run g c = leads_on _ (g.N.Network.legal c.args.network.now) _ _ _ (search rules)

pub returns-clause-run : goal.returns-clause-run
returns-clause-run g c = leads_on _ (g.N.Network.legal c.args.network.now) _ _ _ (search rules)
