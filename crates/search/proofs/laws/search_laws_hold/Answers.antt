use Rattle.search.proofs.Portions.{larger-cuts, run-keeps, run-adds, run-counts, either_end}
use Rattle.search.proofs.laws.search_laws_hold.Goals as goal

pub returns : goal.returns
returns c = record { larger = larger-cuts; keeps = run-keeps; adds = run-adds; counts = run-counts; ends = either_end }
