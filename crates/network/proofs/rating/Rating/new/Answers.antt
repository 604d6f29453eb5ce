use Rattle.std.proofs.Common.{refl}
use Rattle.network.proofs.Ratings.{rating-is}
use Rattle.network.proofs.rating.Rating.new.Goals as goal

pub returns : goal.returns
returns c = rating-is _ c.args.mantissa c.args.exponent refl refl
