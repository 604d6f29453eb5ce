use Rattle.std.proofs.Common.{ap, ◌∙◌}
use Rattle.chance.specs.Bounds.{low, high}
use Rattle.chance.specs.Rows.{branch_sets}
use Rattle.chance.proofs.Enclosed.{brackets}
use Rattle.chance.proofs.LargestOf.{first-largest}
use Rattle.chance.proofs.bounds.bounds_of.Goals as goal

pub returns : goal.returns
returns g c =
    let s = g.S.Scale.arithmetic in
    let net = g.N.RatedNetwork.rated c.args.network.now in
    let rows = branch_sets c.args.rows.now in
    let finished = c.args.finished in
    let is-low = c.bounds_from.ensures.low ∙ ap (λ rs. low s rs rows) c.of.ensures in
    let is-high = c.bounds_from.ensures.high ∙ ap (λ rs. high s rs finished rows) c.of.ensures in
    record {
      low = is-low;
      high = is-high;
      first = first-largest s g.met.S.Scale.rounded net.ratings rows _ is-low;
      bracket = brackets s g.met.S.Scale.rounded net (g.N.RatedNetwork.legal c.args.network.now) rows finished _ _ is-low is-high;
    }
