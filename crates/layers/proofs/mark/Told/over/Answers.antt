use Rattle.layers.proofs.Layers.{marked-retold}
use Rattle.layers.proofs.mark.Told.over.Goals as goal

pub returns-clause-law : goal.returns-clause-law
returns-clause-law g c = marked-retold g.M.Mark.CONDITION c.args.branch (g.N.Network.net c.args.below)
