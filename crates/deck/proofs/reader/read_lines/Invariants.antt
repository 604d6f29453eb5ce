use Rattle.std.proofs.Common.{length}
use Rattle.deck.specs.Left.{lines_left}
use Rattle.deck.proofs.Lines.{LinesFit}
use Rattle.deck.proofs.reader.read_lines.Given as goal

abbrev pub invariant-loop-line : goal.invariant-loop-line
invariant-loop-line l = LinesFit l.bytes l.lines l.draft

abbrev pub decreases-loop-line : goal.decreases-loop-line
decreases-loop-line l = length (lines_left l.lines)
