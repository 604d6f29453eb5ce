use Rattle.std.proofs.Common.{ap, ap₂, fold, ◌∙◌, rules}
use Rattle.std.specs.List.{slice_get}
use Rattle.std.specs.Iterator.{YieldsFirstBy}
use Rattle.std.specs.Iterator.Adapters.{filter_map_steps}
use Rattle.std.proofs.lemmas.Iterator.Consumers.{YieldsList-at, YieldsList-from_first, YieldsList-from_filter_map, fold_from_yields_List}
use Rattle.chance.specs.Bounds.{product_down}
use Rattle.chance.proofs.Chosen.{chosen_is}
use Rattle.chance.proofs.ratings.Ratings.product_down.Goals as goal

pub returns : goal.returns
unfolding product_down
returns g c =
    let s = g.S.Scale.arithmetic in
    let ratings = c.as_slice-ratings.result.now in
    fold_from_yields_List {steps = filter_map_steps (YieldsFirstBy (λ x. x) (λ rest. rest)) _} {v = λ x. x} _ s.times_down _ _ c.fold.ensures.ran
    (YieldsList-from_filter_map _ (slice_get ratings) (YieldsList-at c.filter_map.ensures.source (YieldsList-from_first (λ x. x) (λ rest. rest) _ c.into_iter.ensures.into_iter_gives)) c.filter_map.ensures.closure (λ x r q k. search rules))
    (λ a x b q k. search rules)
    ∙ ap₂ (fold s.times_down) c.one.ensures (chosen_is c.args.set ratings c.as_slice-ratings.ensures.fits)
    ∙ ap (λ rs. product_down s rs c.args.set) (c.as_slice-ratings.ensures.value ∙ c.self.view_is)
