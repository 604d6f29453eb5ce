use Rattle.std.proofs.Common.{ap₂, ◌∙◌}
use lib.Bits.{bit_or}
use Rattle.search.proofs.Walks.{or-collect}
use Rattle.search.proofs.reach.joined_by.Goals as goal

pub returns : goal.returns
returns c = c.bitor.ensures ∙ ap₂ bit_or c.far_end.ensures c.far_end-2.ensures ∙ or-collect 32 _ _
