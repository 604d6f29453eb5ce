use Rattle.std.proofs.Common.{ap, sym, ◌∙◌, ◌+◌, ◌++◌, [], ◌∷◌, take_all, arith}
use Rattle.sets.proofs.Nth.{take_nth, none-past}
use Rattle.chance.proofs.ratings.Ratings.of.Goals.{in-Some, in_default}
use Rattle.chance.proofs.ratings.Ratings.of.Goals as goal

pub loop-branch-preserved : goal.loop-branch-preserved
loop-branch-preserved g c =
    let ratings = (g.N.RatedNetwork.rated c.args.network.now).ratings in
    let n = c.loop-branch.branch in
    elim c.match-rating.branch [
      | in-Some w ↦
          ap (λ t. t.items) w.table-is ∙ w.push.ensures.items ∙ ap (λ xs. xs ++ (w.in-Some.rating ∷ [])) c.loop-branch.invariant
          ∙ sym (take_nth ratings n w.in-Some.rating (sym w.in-Some.is ∙ c.rating.ensures.answer))
      | in_default w ↦
          let past = none-past ratings n (sym c.rating.ensures.answer ∙ w.in_default.is) in
          ap (λ t. t.items) w.table-is ∙ c.loop-branch.invariant ∙ take_all n ratings past ∙ sym (take_all (n + 1) ratings (omega arith))
    ]
