use Rattle.std.proofs.Common.{arith, rules}
use Rattle.std.proofs.lemmas.Bool.Decides.{nat_tests}
use Rattle.sets.proofs.Nth.{nth-map-counting, nth-map-counting-past}
use Rattle.network.proofs.ring.RingNetwork.branch.Goals as goal

pub returns-then-k-self : goal.returns-then-k-self
returns-then-k-self c = search (rules, nth-map-counting-past)

pub returns-then-k-self-2 : goal.returns-then-k-self-2
returns-then-k-self-2 c = rw (nth-map-counting _ _ _ c.if-k-self.false) (grind (arith, nat_tests))

pub returns-else-k-self-2 : goal.returns-else-k-self-2
returns-else-k-self-2 c = rw (nth-map-counting _ _ _ c.if-k-self.false) (grind (arith, nat_tests))
