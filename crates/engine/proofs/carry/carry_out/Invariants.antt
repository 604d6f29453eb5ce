use Rattle.std.proofs.Common.{length}
use Rattle.engine.specs.Studies.{state_of}
use Rattle.engine.proofs.Carried.{MadeFirst}
use Rattle.engine.proofs.carry.carry_out.Given as goal

-- the calls so far are made, on a study that was just set up
abbrev pub invariant-loop-place : goal.invariant-loop-place
invariant-loop-place g l =
    MadeFirst (g.N.Network.net l.network) (g.N.RatedNetwork.rated l.network).ratings g.S.Scale.arithmetic g.T.Scale.arithmetic (length l.initial.buffer) (state_of l.initial.study) l.initial.asked l.initial.buffer
    l.place-index (state_of l.study) l.asked l.buffer
