use Rattle.std.proofs.Common.{rules}
use Rattle.search.proofs.RowSets.{held-is}
use Rattle.search.proofs.closure.held_by.Goals as goal

pub returns : goal.returns
returns g c = search (rules, held-is)
