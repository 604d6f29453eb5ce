use Rattle.std.proofs.Common.{rules}
use Rattle.search.proofs.RowSets.{linked-is}
use Rattle.search.proofs.questions.has_chain.Goals as goal

pub returns : goal.returns
returns g c = search (rules, linked-is)
