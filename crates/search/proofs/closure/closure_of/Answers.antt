use Rattle.std.proofs.Common.{rules}
use Rattle.search.proofs.RowSets.{closure-whole, closure-rest}
use Rattle.search.proofs.closure.closure_of.Goals as goal

pub returns-then-contains : goal.returns-then-contains
returns-then-contains g c = let holds = c.if-contains.ensures in search (rules, closure-whole)

pub returns : goal.returns
returns g c =
    let legal = g.N.Network.legal c.args.network.now in
    let holds = c.if-contains.ensures in
    search (rules, closure-rest)
