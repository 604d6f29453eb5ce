use Rattle.search.proofs.Walks.{nodes-mask}
use Rattle.search.proofs.nodes.all_nodes.Goals as goal

pub returns : goal.returns
returns g c = nodes-mask _ (g.N.Network.legal c.args.network.now) _ _ c.nodes.ensures c.below.ensures
