use Rattle.std.proofs.Common.{◌≡◌, ◌-◌}
use Rattle.search.specs.Search.{spread}
use Rattle.search.specs.Steps.{avoiding}
use Rattle.search.proofs.reach.reach.Given as goal

-- the rounds that are left give the answer
abbrev pub invariant-loop : goal.invariant-loop
invariant-loop g l =
    let net = g.N.Network.net l.network in
    spread net.nodes (avoiding l.over net l.avoid) (l.end - l.counter) l.set ≡ spread net.nodes (avoiding l.over net l.avoid) net.nodes l.fn.start
