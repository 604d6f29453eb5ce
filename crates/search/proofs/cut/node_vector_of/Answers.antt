use Rattle.std.proofs.Common.{rules}
use Rattle.search.proofs.RowSets.{node-vector-is}
use Rattle.search.proofs.cut.node_vector_of.Goals as goal

pub returns : goal.returns
returns g c =
    let legal = g.N.Network.legal c.args.network.now in
    search (rules, node-vector-is)
