use Rattle.std.proofs.Common.{◌≡◌, ◌++◌, string_bytes}
use Rattle.deck.specs.Cards.{cards}
use Rattle.deck.specs.Doorways.{doors_in}
use Rattle.deck.specs.Left.{doors_left}
use Rattle.sheet.specs.Sheets.{door_texts}
use Rattle.sheet.proofs.study_sheet.write_doors.Given as goal

-- the doors so far and those to come are all, and the sheets of the doors so far are written
abbrev pub invariant-loop-door : goal.invariant-loop-door
invariant-loop-door g l =
    (doors_in (cards l.bytes) ≡ l.yielded ++ doors_left l.door-iterator)
    × (string_bytes l.text ≡ string_bytes l.initial.text ++ door_texts (g.N.RatedNetwork.rated l.network) l.head l.yielded)
