use Rattle.std.proofs.Common.{rules}
use Rattle.deck.proofs.Lines.{lines_fit}
use Rattle.deck.proofs.reader.read_lines.Goals as goal

pub loop-line-preserved : goal.loop-line-preserved
loop-line-preserved c =
    lines_fit c.args.bytes.now c.loop-line.lines c.next.new.self c.in-Some.line c.loop-line.draft c.loop-line.invariant c.in-Some.ensures.steps _ _ c.read_line.ensures (search rules)
