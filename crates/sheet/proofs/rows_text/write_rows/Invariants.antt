use Rattle.std.specs.Fmt.{HasWritten, IsPlainFormatter}
use Rattle.engine.specs.Studies.{state_of}
use Rattle.sheet.specs.Sheets.{cut_lines}
use Rattle.sheet.proofs.rows_text.write_rows.Given as goal

-- the lines of the rows so far
abbrev pub invariant-loop-k : goal.invariant-loop-k
invariant-loop-k g l =
    IsPlainFormatter l.initial.f → HasWritten g.W.Write.write_str_gives l.initial.f (cut_lines (g.N.Network.net l.network) (state_of l.study) l.k) l.f
