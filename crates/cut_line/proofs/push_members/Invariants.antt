use Rattle.std.proofs.Common.{◌≡◌, ◌++◌}
use Rattle.sets.specs.Masks.{members}
use Rattle.cut_line.specs.Cuts.{spaced}
use Rattle.cut_line.proofs.push_members.Given as goal

abbrev pub invariant-loop-k : goal.invariant-loop-k
invariant-loop-k g l = record {
  parts : members g.W.Width.BITS l.fn.set ≡ l.yielded ++ l.k-iterator;
  bytes : l.line.bytes ≡ l.initial.line.bytes ++ spaced l.yielded;
}
