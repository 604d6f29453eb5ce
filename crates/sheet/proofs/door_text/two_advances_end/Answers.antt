use Rattle.sheet.proofs.Ended.{two-advances-end}
use Rattle.sheet.proofs.door_text.two_advances_end.Goals as goal

pub returns : goal.returns
returns c = two-advances-end
