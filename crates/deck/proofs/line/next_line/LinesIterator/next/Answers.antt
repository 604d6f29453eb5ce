use Rattle.std.proofs.Common.{drop, ap, refl, ◌∙◌, arith, rules}
use Rattle.deck.proofs.Pieces.{next_line}
use Rattle.deck.proofs.line.next_line.LinesIterator.next.Goals as goal

pub returns-clause-steps : goal.returns-clause-steps
returns-clause-steps c =
    let p = next_line c.args.self.now.rest.now _ _ _ c.if-is_empty.ensures c.length_before.ensures c.split_at.ensures.front (c.tail.ensures ∙ ap (drop 1) c.split_at.ensures.back) in
    record { number = refl; bytes = p.0; next = refl; shorter = omega (arith, p.1) }

pub returns-clause-goes : goal.returns-clause-goes
returns-clause-goes c =
    let left = (next_line c.args.self.now.rest.now _ _ _ c.if-is_empty.ensures c.length_before.ensures c.split_at.ensures.front (c.tail.ensures ∙ ap (drop 1) c.split_at.ensures.back)).0 in search rules
