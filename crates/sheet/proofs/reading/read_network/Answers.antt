use Rattle.std.proofs.Common.{length, ◌∙◌, rules}
use Rattle.sheet.proofs.Accepted.{read}
use Rattle.sheet.proofs.reading.read_network.Goals as goal

pub unwrap-requires : goal.unwrap-requires
unwrap-requires c =
    let r = read c.args.bytes.now (length c.args.table.now) c.in_ok-deck.deck c.args.table.now c.read_deck.new.table (search rules) c.in_ok-deck.ensures.answer c.in_ok-deck.ensures.filled in
    rw (c.fill.ensures.answer ∙ r.taken) (search rules)
