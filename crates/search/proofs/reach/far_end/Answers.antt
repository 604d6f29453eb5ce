use Rattle.std.proofs.Common.{sym, ◌∙◌}
use Rattle.search.proofs.Walks.{end_in, end_out}
use Rattle.search.proofs.reach.far_end.Goals as goal

pub returns-then-contains : goal.returns-then-contains
returns-then-contains c = c.single.ensures ∙ end_in c.args.far _ (sym c.if-contains.ensures)

pub returns-else-contains : goal.returns-else-contains
returns-else-contains c = c.new.ensures ∙ end_out c.args.far _ (sym c.if-contains.ensures)
