use Rattle.std.proofs.Common.{length, arith, rules}
use Rattle.std.specs.Fmt.{HasWritten}
use Rattle.std.proofs.Output.{has_written_append, has_written_of_eq}
use Rattle.engine.specs.Studies.{state_of}
use Rattle.sheet.specs.Sheets.{cut_lines, low_line, fine_line}
use Rattle.sheet.specs.Answers.{advances_line}
use Rattle.sheet.proofs.Answers.{answers_text-parts}
use Rattle.sheet.proofs.answers_text.AnswersTextDisplay.fmt.Goals as goal

pub returns-clause-writes : goal.returns-clause-writes
returns-clause-writes g c = λ p ok.
    let door = c.args.self.now.door in
    let places = c.args.self.now.places.now in
    let s = state_of c.args.self.now.study.now in
    let rows = cut_lines (g.N.Network.net c.args.self.now.network.now) s (length s.search.rows) in
    let advances = advances_line door c.made_in.result c.made_in-2.result in
    let low = low_line c.low_in.result in
    let fine = fine_line c.fine_in.result in
    let one : HasWritten g.W.Write.write_str_gives c.args.f.now advances c.write_advances.new.f = search rules in
    let two : HasWritten g.W.Write.write_str_gives c.write_advances.new.f rows c.write_rows.new.f = search rules in
    let three : HasWritten g.W.Write.write_str_gives c.write_rows.new.f low c.write_low.new.f = search rules in
    has_written_of_eq _ _ _ _ _
    (answers_text-parts door rows places (omega arith) _ _ _ _ _ _ _ _ c.made_in.ensures c.made_in-2.ensures c.low_in.ensures c.fine_in.ensures)
    (has_written_append _ _ _ _ _ _ one (has_written_append _ _ _ _ _ _ two (has_written_append _ _ low c.write_low.new.f fine _ three (search rules))))
