use Rattle.std.proofs.Common.{◌≡◌, length}
use Rattle.deck.specs.Left.{lines_left, doors_left}
use Rattle.deck.proofs.doors.DoorsIterator.next.Given as goal

abbrev pub invariant-loop-line : goal.invariant-loop-line
invariant-loop-line l = doors_left l.initial.self ≡ doors_left l.self

abbrev pub decreases-loop-line : goal.decreases-loop-line
decreases-loop-line l = length (lines_left l.self.lines)
