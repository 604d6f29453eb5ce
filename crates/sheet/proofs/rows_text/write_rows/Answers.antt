use Rattle.std.proofs.Common.{rules}
use Rattle.std.proofs.Output.{has_written_append, has_written_of_eq}
use Rattle.engine.specs.Studies.{state_of}
use Rattle.sheet.specs.Sheets.{cut_lines}
use Rattle.sheet.proofs.Rows.{cut_lines_more}
use Rattle.sheet.proofs.rows_text.write_rows.Goals as goal

pub loop-k-init : goal.loop-k-init
unfolding cut_lines
loop-k-init g c = search rules

pub loop-k-preserved : goal.loop-k-preserved
loop-k-preserved g c = λ p.
    has_written_of_eq _ _ _ _ _ (cut_lines_more (g.N.Network.net c.args.network.now) (state_of c.args.study.now) c.loop-k.k)
    (has_written_append _ _ _ _ _ _ (c.loop-k.invariant p) (search rules))
