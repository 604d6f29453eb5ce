use Rattle.std.proofs.Common.{rules}
use Rattle.engine.proofs.Runs.{leads_on}
use Rattle.engine.proofs.Steps.{tries-within}
use Rattle.engine.proofs.study.Study.advance.Goals as goal

pub returns-in_err-door-clause-run : goal.returns-in_err-door-clause-run
returns-in_err-door-clause-run g c = leads_on _ (g.N.Network.legal c.args.network.now) _ _ _ (search rules)

pub returns-in_err-check_budget-clause-run : goal.returns-in_err-check_budget-clause-run
returns-in_err-check_budget-clause-run g c = leads_on _ (g.N.Network.legal c.args.network.now) _ _ _ (search rules)

pub returns-clause-run : goal.returns-clause-run
returns-clause-run g c = leads_on _ (g.N.Network.legal c.args.network.now) _ _ _ (search rules)

pub returns-clause-within : goal.returns-clause-within
returns-clause-within g c = tries-within (g.N.Network.net c.args.network.now) _ c.args.budget _ c.try_up_to.result c.try_up_to.ensures.answer
