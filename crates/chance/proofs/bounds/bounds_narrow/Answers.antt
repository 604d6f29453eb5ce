use Rattle.chance.proofs.Narrow.{narrowing}
use Rattle.chance.proofs.bounds.bounds_narrow.Goals as goal

pub returns : goal.returns
returns g c = narrowing _
