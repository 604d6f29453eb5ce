use Rattle.std.proofs.Common.{rules}
use Rattle.layers.proofs.Layers.{joined-joint}
use Rattle.layers.proofs.joint.Joint.at.Goals as goal

pub returns : goal.returns
returns g c = record {
  made = search rules;
  law = joined-joint c.args.node (g.P.Network.net c.args.first) (g.Q.Network.net c.args.second);
}
