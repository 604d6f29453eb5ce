use Rattle.std.proofs.Common.{◌≡◌, [], ◌∷◌, sym, ◌∙◌, rules}
use Rattle.sets.specs.Masks.{members}
use Rattle.sets.proofs.Listed.{next-none, next-some}
use Rattle.sets.proofs.set.members.MembersIterator.next.Goals as goal

pub returns-in_err-first-clause-steps : goal.returns-in_err-first-clause-steps
returns-in_err-first-clause-steps g c =
    let none : c.args.self.now ≡ [] = sym c.self.view_is ∙ next-none _ _ c.in_err-first.ensures in rw c.from_residual.ensures (none, none)

pub returns-clause-steps : goal.returns-clause-steps
returns-clause-steps g c = sym c.self.view_is ∙ next-some _ _ _ _ _ c.in_ok-first.ensures c.single.ensures c.sub-self-inside.ensures

pub returns-clause-goes : goal.returns-clause-goes
returns-clause-goes g c =
    let more : c.args.self.now ≡ c.in_ok-first.first ∷ members g.W.Width.BITS c.sub-self-inside.result =
    sym c.self.view_is ∙ next-some _ _ _ _ _ c.in_ok-first.ensures c.single.ensures c.sub-self-inside.ensures in
    search rules
