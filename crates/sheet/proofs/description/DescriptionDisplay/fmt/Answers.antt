use Rattle.std.proofs.Common.{rules}
use Rattle.std.proofs.Output.{has_written_append, has_written_of_eq}
use Rattle.network.specs.Meaning.{list_rated}
use Rattle.deck.specs.Cards.{cards}
use Rattle.deck.specs.Doorways.{doors_in}
use Rattle.sheet.specs.Descriptions.{network_text, door_lines}
use Rattle.sheet.proofs.Accepted.{accepted-text}
use Rattle.sheet.proofs.description.DescriptionDisplay.fmt.Goals as goal

pub returns-in_ok-write-in-Ok-clause-writes : goal.returns-in_ok-write-in-Ok-clause-writes
returns-in_ok-write-in-Ok-clause-writes g c = λ p ok.
    let net = list_rated c.in-Ok.list.nodes c.in-Ok.list.table.now in
    let network = network_text net c.in-Ok.head in
    has_written_of_eq _ _ _ _ _ (accepted-text c.args.self.now.bytes.now net c.in-Ok.head c.in-Ok.ensures)
    (has_written_append _ _ network c.write.new.self (door_lines (doors_in (cards c.args.self.now.bytes.now))) _ (search rules) (search rules))
