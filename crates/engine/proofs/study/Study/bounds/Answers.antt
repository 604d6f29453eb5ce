use Rattle.std.proofs.Common.{◌≡◌, refl, ap, ◌∙◌, rules}
use mathlib.Core.List.{map-map}
use Rattle.chance.specs.Rows.{branch_sets}
use Rattle.engine.specs.Studies.{state_of, listed}
use Rattle.engine.proofs.Runs.{leads_on, bounds-enclose}
use Rattle.engine.proofs.study.Study.bounds.Goals as goal

pub returns-in_err-door-clause-run : goal.returns-in_err-door-clause-run
returns-in_err-door-clause-run g c which = leads_on _ (g.N.Network.legal c.args.network.now) _ _ _ refl

pub returns-in_err-door-clause-chance : goal.returns-in_err-door-clause-chance
returns-in_err-door-clause-chance g c = bounds-enclose _ (g.N.RatedNetwork.legal c.args.network.now) _ g.met.S.Scale.rounded _

pub returns-clause-answer : goal.returns-clause-answer
returns-clause-answer g c =
    let sets : branch_sets c.as_slice.result.now ≡ listed (g.N.Network.net c.args.network.now) (state_of c.args.self.now).search =
    ap branch_sets (c.as_slice.ensures.value ∙ c.list_cuts.ensures) ∙ map-map _ _ _ in
    search rules

pub returns-clause-run : goal.returns-clause-run
returns-clause-run g c which = leads_on _ (g.N.Network.legal c.args.network.now) _ _ _ refl

pub returns-clause-chance : goal.returns-clause-chance
returns-clause-chance g c = bounds-enclose _ (g.N.RatedNetwork.legal c.args.network.now) _ g.met.S.Scale.rounded _
