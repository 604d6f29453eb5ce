use Rattle.std.proofs.Common.{◌∙◌, length, length-append, ap, rules}
use Rattle.std.proofs.Output.{has_written_append, has_written_of_eq}
use Rattle.network.proofs.Numbered.{given_none, given-all, given-next}
use Rattle.sheet.specs.Descriptions.{lines_below}
use Rattle.sheet.proofs.Branches.{lines_more}
use Rattle.sheet.proofs.network_text.write_branches.Goals as goal

pub loop-k-init : goal.loop-k-init
unfolding lines_below
loop-k-init g c = (given_none _ _ (c.into_iter-k-iterator.ensures.into_iter_gives ∙ c.branches_of-k-items.ensures), search rules)

pub loop-k-preserved : goal.loop-k-preserved
loop-k-preserved g c =
    let branches = (g.N.Network.net c.args.network.now).branches in
    let ratings = (g.N.RatedNetwork.rated c.args.network.now).ratings in
    let n = length c.loop-k.yielded in
    let next = given-next branches n _ c.loop-k.invariant.0 _ _ _ c.in-Some.ensures.steps in
    simp length-append (
      next.2,
      λ p.
          has_written_of_eq _ _ _ _ _ (lines_more branches ratings n _ _ next.0 next.1)
          (has_written_append _ _ (lines_below branches ratings n) _ _ _ (c.loop-k.invariant.1 p) (search rules)),
    )

pub returns : goal.returns
returns g c =
    let branches = (g.N.Network.net c.args.network.now).branches in
    let all = given-all branches _ _ c.loop-k.invariant.0 c.in-None.ensures.steps.0 in
    λ p ok. has_written_of_eq _ _ _ _ _ (ap (lines_below branches (g.N.RatedNetwork.rated c.args.network.now).ratings) all) (c.loop-k.invariant.1 p)
