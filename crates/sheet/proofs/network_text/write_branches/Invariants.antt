use Rattle.std.proofs.Common.{length}
use Rattle.std.specs.Fmt.{HasWritten, IsPlainFormatter}
use Rattle.network.proofs.Numbered.{Given}
use Rattle.sheet.specs.Descriptions.{lines_below}
use Rattle.sheet.proofs.network_text.write_branches.Given as goal

-- the lines of the branches so far
abbrev pub invariant-loop-k : goal.invariant-loop-k
invariant-loop-k g l =
    let branches = (g.N.Network.net l.network).branches in
    Given branches (length l.yielded) l.k-iterator
    × (IsPlainFormatter l.initial.f
    → HasWritten g.W.Write.write_str_gives l.initial.f (lines_below branches (g.N.RatedNetwork.rated l.network).ratings (length l.yielded)) l.f)
