use Rattle.search.proofs.Doors.{vectors-tell, lowest-door}
use Rattle.search.proofs.laws.doors_share_cuts.Goals as goal

pub returns : goal.returns
returns c = record { vectors = vectors-tell; lowest = lowest-door }
