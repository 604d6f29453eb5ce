use Rattle.std.proofs.Common.{◌≡◌, false, ◌&&◌, length, is_some, nat_le, Err, sym, ap, ◌∙◌, rules}
use Rattle.std.proofs.lemmas.Bool.{and_from, and_right}
use Rattle.search.specs.declared.plan.Halt.TheVariants as halts
use Rattle.search.specs.Search.{room}
use Rattle.search.specs.Tables.{rows_of}
use Rattle.search.proofs.Plans.{found_all, plan-none, plan-full, plan-go, ok_or-some, ok_or-none}
use Rattle.search.proofs.plan.next_try.Goals.{else-is_some-via-then-is_some+else-is_full, else-is_some-via-else-is_some}
use Rattle.search.proofs.plan.next_try.Goals as goal

pub returns-in_err-row : goal.returns-in_err-row
returns-in_err-row g c =
    let none = ok_or-none c.first_try.result halts.Finished c.in_err-row.field-0.0 (sym c.ok_or.ensures.value ∙ c.in_err-row.was) in
    let stops : c.from_residual.result ≡ Err halts.Finished = search rules in
    stops ∙ plan-none (g.N.Network.net c.args.network.now) c.args.door (rows_of c.args.table.now) (sym none ∙ c.first_try.ensures)

pub returns-then-is_full : goal.returns-then-is_full
returns-then-is_full g c =
    let some = ok_or-some c.first_try.result halts.Finished (c.in_ok-row.row, c.in_ok-row.node) (sym c.ok_or.ensures.value ∙ c.in_ok-row.was) in
    let f = found_all (g.N.Network.net c.args.network.now) c.args.door (rows_of c.args.table.now) c.rows.result.now c.in_ok-row.row c.in_ok-row.node c.row_by-written.result c.index-rows-row.result
    (sym some ∙ c.first_try.ensures) c.rows.ensures c.index-rows-row.is c.row_by-written.ensures in
    plan-full f (and_from _ _ (sym c.if-is_full.ensures) (sym c.if-is_some.ensures))

pub returns : goal.returns
returns g c =
    let some = ok_or-some c.first_try.result halts.Finished (c.in_ok-row.row, c.in_ok-row.node) (sym c.ok_or.ensures.value ∙ c.in_ok-row.was) in
    let f = found_all (g.N.Network.net c.args.network.now) c.args.door (rows_of c.args.table.now) c.rows.result.now c.in_ok-row.row c.in_ok-row.node c.row_by-written.result c.index-rows-row.result
    (sym some ∙ c.first_try.ensures) c.rows.ensures c.index-rows-row.is c.row_by-written.ensures in
    let goes : (nat_le room (length (rows_of c.args.table.now)) && is_some c.row_by-written.result) ≡ false = elim c.else-is_some.branch [
      | else-is_some-via-then-is_some+else-is_full w ↦ ap (λ b. b && is_some c.row_by-written.result) (sym w.if-is_full.ensures)
      | else-is_some-via-else-is_some w ↦ and_right _ _ (sym w.if-is_some.ensures)
    ] in
    plan-go f goes
