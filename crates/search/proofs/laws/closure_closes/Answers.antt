use Rattle.search.proofs.Beside.{neighbours-suffice}
use Rattle.search.proofs.Portions.{closure-closes, linked-tells}
use Rattle.search.proofs.laws.closure_closes.Goals as goal

pub returns : goal.returns
returns c = record { chains = closure-closes; questions = linked-tells; neighbours = neighbours-suffice }
