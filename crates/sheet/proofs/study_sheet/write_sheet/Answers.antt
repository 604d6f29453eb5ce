use Rattle.std.proofs.Common.{rules}
use Rattle.network.specs.Meaning.{list_rated}
use Rattle.sheet.proofs.Accepted.{accepted-sheet}
use Rattle.sheet.proofs.study_sheet.write_sheet.Goals as goal

pub returns-in-Ok : goal.returns-in-Ok
returns-in-Ok c =
    let same = accepted-sheet c.args.bytes.now (list_rated c.in-Ok.network.nodes c.in-Ok.network.table.now) c.in-Ok.head c.in-Ok.ensures in search rules
