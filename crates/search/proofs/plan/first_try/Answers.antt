use Rattle.std.proofs.Common.{length, sym, ap, ◌∙◌, inl, inr, arith}
use Rattle.search.specs.Tables.{rows_of}
use Rattle.search.proofs.Plans.{tail-read, first-past, first-here, shut-more}
use Rattle.search.proofs.plan.first_try.Goals as goal

pub returns-in_err-rest : goal.returns-in_err-rest
returns-in_err-rest g c =
    let long = ap length c.rows.ensures in
    c.from_residual.ensures ∙ first-past (g.N.Network.net c.args.network.now) (rows_of c.args.table.now) c.args.first c.requires (elim c.in_err-rest.ensures.lookup.0 [
      | inl past ↦ omega arith
      | inr past ↦ absurd (omega arith)
    ])

pub returns-in-Some : goal.returns-in-Some
returns-in-Some g c =
    let (_, _, tail, long) = c.in_ok-rest.ensures.lookup.0 in
    first-here (g.N.Network.net c.args.network.now) (rows_of c.args.table.now) _ c.loop-i.invariant c.index-rest-i.result
    (tail-read _ _ _ _ _ _ c.rows.ensures tail long (omega arith) c.index-rest-i.is) c.in-Some.node (sym c.in-Some.is ∙ c.lowest_candidate.ensures)

pub loop-i-preserved : goal.loop-i-preserved
loop-i-preserved g c j l =
    let (_, _, tail, long) = c.in_ok-rest.ensures.lookup.0 in
    shut-more (g.N.Network.net c.args.network.now) (rows_of c.args.table.now) _ c.loop-i.invariant c.index-rest-i.result
    (tail-read _ _ _ _ _ _ c.rows.ensures tail long (omega arith) c.index-rest-i.is) (sym c.in_default.is ∙ c.lowest_candidate.ensures) j (omega arith)

pub returns : goal.returns
returns g c =
    let (_, _, tail, long) = c.in_ok-rest.ensures.lookup.0 in
    first-past (g.N.Network.net c.args.network.now) (rows_of c.args.table.now) _ c.loop-i.invariant (let e = ap length c.rows.ensures in omega arith)
