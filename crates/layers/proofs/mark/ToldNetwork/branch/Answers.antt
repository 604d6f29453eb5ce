use Rattle.std.proofs.Common.{◌≡◌, rules}
use Rattle.std.specs.List.{slice_get}
use Rattle.layers.specs.Meaning.{retold_at}
use Rattle.layers.proofs.Retold.{nth-retold_at}
use Rattle.layers.proofs.Layers.{marked-branch}
use Rattle.layers.proofs.mark.ToldNetwork.branch.Goals as goal

pub returns : goal.returns
returns g c =
    let s = c.args.self.now in
    let branches = (g.N.Network.net s.below).branches in
    let meaning : c.map.result ≡ slice_get (retold_at g.M.Mark.CONDITION s.branch branches) c.args.k = rw (nth-retold_at, ← c.branch-self.ensures) (search rules) in
    record { meaning = meaning; law = rw meaning (marked-branch g.M.Mark.CONDITION s.branch c.args.k branches) }
