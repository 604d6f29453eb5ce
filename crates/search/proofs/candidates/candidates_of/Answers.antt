use Rattle.std.proofs.Common.{rules}
use Rattle.search.proofs.RowSets.{candidates-is}
use Rattle.search.proofs.candidates.candidates_of.Goals as goal

pub returns : goal.returns
returns g c =
    let legal = g.N.Network.legal c.args.network.now in
    search (rules, candidates-is)
