use Rattle.std.proofs.Common.{ap₂, ◌∙◌, take, take_all, unwrap_or, rules}
use Rattle.chance.specs.Rows.{branch_sets}
use Rattle.chance.proofs.RowSteps.{added_none, rows_none, pairs-none, rows_more, pairs-more, best-more, high-more, best_is, high_is, branch_sets-more}
use Rattle.chance.proofs.bounds.bounds_from.Goals as goal

pub loop-j-init : goal.loop-j-init
loop-j-init g c =
    let s = g.S.Scale.arithmetic in
    let ratings = c.args.ratings.now in record {
      first = c.zero-s1.ensures ∙ rows_none s ratings;
      second = c.zero-s2.ensures ∙ pairs-none s ratings;
      best = search rules;
      all = c.zero-sum.ensures ∙ added_none s ratings s.zero;
    }

pub loop-j-preserved : goal.loop-j-preserved
loop-j-preserved g c =
    let s = g.S.Scale.arithmetic in
    let ratings = c.args.ratings.now in
    let rows = c.args.rows.now in
    let set = c.index-rows-j.result.branches in
    let before = branch_sets (take c.loop-j.j rows) in
    let first = rows_more s ratings before set c.sum_down-s1.ensures c.product_down.ensures c.loop-j.invariant.first in
    let second = pairs-more s ratings before set c.add_pairs-s2.ensures c.loop-j.invariant.second in
    rw (branch_sets-more rows c.loop-j.j c.index-rows-j.result c.loop-j-test.true c.index-rows-j.is) (record {
      first = first;
      second = second;
      best = best-more s ratings before set c.better.ensures c.less_down.ensures c.loop-j.invariant.best first second;
      all = high-more s ratings before set c.sum_up-sum.ensures c.product_up.ensures c.loop-j.invariant.all;
    })

pub returns : goal.returns
returns g c =
    let s = g.S.Scale.arithmetic in
    let ratings = c.args.ratings.now in
    let rows = branch_sets c.args.rows.now in
    let is = rw (take_all c.loop-j.j c.args.rows.now c.loop-j-test.false) at c.loop-j.invariant in record {
      low = c.unwrap_or.ensures ∙ ap₂ unwrap_or is.best c.zero.ensures ∙ best_is s ratings rows;
      high = high_is s ratings c.args.finished rows c.high_bound.ensures is.all;
    }
