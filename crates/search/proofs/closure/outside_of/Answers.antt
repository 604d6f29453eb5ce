use Rattle.std.proofs.Common.{rules}
use Rattle.search.proofs.RowSets.{outside-is}
use Rattle.search.proofs.closure.outside_of.Goals as goal

pub returns : goal.returns
returns g c = search (rules, outside-is)
