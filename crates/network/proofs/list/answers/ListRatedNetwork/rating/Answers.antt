use Rattle.std.proofs.Common.{◌≡◌, ◌∙◌, rules}
use Rattle.std.specs.Option.{option_and_then}
use Rattle.network.specs.Ratings.{checked_rating}
use Rattle.network.proofs.Ratings.{listed-rating}
use Rattle.network.proofs.list.answers.ListRatedNetwork.rating.Goals as goal

pub returns-clause-answer : goal.returns-clause-answer
returns-clause-answer c =
    let s = c.args.self.now in
    let chained : c.and_then.result ≡ option_and_then (λ r. checked_rating r.mantissa r.exponent) c.row.result = search rules in
    chained ∙ listed-rating s.nodes s.table.now s.sound c.args.k c.row.result c.row.ensures
