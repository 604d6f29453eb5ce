use Rattle.std.proofs.Common.{◌≡◌, ◌++◌}
use Rattle.std.specs.Fmt.{HasWritten, IsPlainFormatter}
use Rattle.deck.specs.Cards.{cards}
use Rattle.deck.specs.Doorways.{doors_in}
use Rattle.deck.specs.Left.{doors_left}
use Rattle.sheet.specs.Descriptions.{door_lines}
use Rattle.sheet.proofs.description.write_doors.Given as goal

-- the doors so far and those to come are all, and the lines of the doors so far are written
abbrev pub invariant-loop-door : goal.invariant-loop-door
invariant-loop-door g l =
    (doors_in (cards l.bytes) ≡ l.yielded ++ doors_left l.door-iterator)
    × (IsPlainFormatter l.initial.f → HasWritten g.W.Write.write_str_gives l.initial.f (door_lines l.yielded) l.f)
