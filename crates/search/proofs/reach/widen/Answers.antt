use Rattle.std.proofs.Common.{ap₂, refl, ◌∙◌}
use lib.Bits.{bit_and}
use Rattle.search.proofs.Walks.{widen-is}
use Rattle.search.proofs.reach.widen.Goals as goal

pub returns : goal.returns
returns g c = c.bitand.ensures ∙ ap₂ bit_and c.bitor.ensures refl ∙ widen-is c.args.over _ (g.N.Network.legal c.args.network.now) c.args.avoid c.args.set _ _ _ c.touching.ensures c.sub-near.ensures c.all_nodes.ensures
