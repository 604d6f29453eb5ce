use Rattle.std.proofs.Common.{rules}
use Rattle.layers.specs.Legality.{length-retold_at}
use Rattle.layers.proofs.mark.ToldNetwork.branches.Goals as goal

pub returns-clause-meaning : goal.returns-clause-meaning
returns-clause-meaning g c = search (rules, length-retold_at)
