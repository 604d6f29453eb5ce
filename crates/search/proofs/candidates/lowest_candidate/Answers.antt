use Rattle.std.proofs.Common.{rules}
use Rattle.search.proofs.RowSets.{lowest-is}
use Rattle.search.proofs.candidates.lowest_candidate.Goals as goal

pub returns : goal.returns
returns g c =
    let few = (g.N.Network.legal c.args.network.now).nodes in
    search (rules, lowest-is)
