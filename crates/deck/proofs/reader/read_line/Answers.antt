use Rattle.std.proofs.Common.{Err, ap, ◌∙◌}
use Rattle.std.proofs.lemmas.Result.{err_from_is_err_and}
use Rattle.deck.proofs.Titles.{titled-card, untitled-card}
use Rattle.deck.proofs.reader.read_line.Goals as goal

pub returns-in_err-card_of : goal.returns-in_err-card_of
returns-in_err-card_of c = λ es h l.
    let p = err_from_is_err_and c.from_residual.result c.from_residual.ensures.1 in
    let un = c.in_err-card_of.ensures in
    rw (untitled-card c.args.line.bytes.now un.1) (p.1 ∙ ap Err (p.2 ∙ un.0))

pub returns : goal.returns
returns c = λ es h l.
    let t = c.in_ok-card_of.ensures in
    rw (titled-card _ c.args.line.bytes.now _ t.begins) (c.put.ensures es h (t.at ∙ l))
