use Rattle.std.proofs.Common.{◌≡◌, ◌+◌, ◌∷◌, drop, sym, arith, rules}
use Rattle.std.specs.List.{enumerate_from}
use Rattle.sets.proofs.Nth.{below-some}
use Rattle.network.proofs.Numbered.{numbered-more, numbered-none}
use Rattle.network.proofs.branches.BranchesIterator.next.Goals as goal

pub returns-in_err-b-clause-steps : goal.returns-in_err-b-clause-steps
returns-in_err-b-clause-steps g c =
    let s = c.self.inside in
    let none = numbered-none (g.N.Network.net s.network.now).branches s.next _ c.self.view_is c.in_err-b.ensures in
    rw c.from_residual.ensures (none, none)

pub overflow_add-self : goal.overflow_add-self
overflow_add-self g c =
    let s = c.self.inside in
    let below = below-some (g.N.Network.net s.network.now).branches s.next _ (sym c.in_ok-b.ensures) in
    omega (arith, below, (g.N.Network.legal s.network.now).branches)

pub returns-clause-steps : goal.returns-clause-steps
returns-clause-steps g c =
    let s = c.self.inside in numbered-more (g.N.Network.net s.network.now).branches s.next _ c.self.view_is c.in_ok-b.b c.in_ok-b.ensures

pub returns-clause-goes : goal.returns-clause-goes
returns-clause-goes g c =
    let s = c.self.inside in
    let branches = (g.N.Network.net s.network.now).branches in
    let more : c.args.self.now ≡ (s.next, c.in_ok-b.b) ∷ enumerate_from (s.next + 1) (drop (s.next + 1) branches) =
    numbered-more branches s.next _ c.self.view_is c.in_ok-b.b c.in_ok-b.ensures in
    search rules
