use Rattle.std.proofs.Common.{◌≡◌, ◌+◌, ◌-◌, sym, ap, ◌∙◌, ap₂, arith}
use Rattle.search.specs.Search.{run, searched}
use Rattle.search.specs.Tables.{rows_of}
use Rattle.search.proofs.Portions.{stands}
use Rattle.search.proofs.Plans.{not_more, made-is, go-room, run_step, run_none}
use Rattle.search.proofs.run.run_tries.Goals as goal

pub returns-in_default : goal.returns-in_default
returns-in_default g c t =
    let net = g.N.Network.net c.args.network.now in
    let rows = rows_of c.loop-tries.table in
    sym (stands net c.args.door (c.args.budget - c.loop-tries.tries) (searched rows (t + c.loop-tries.tries)) (not_more net c.args.door rows c.next_try.result c.next_try.ensures c.in_default.not-Ok))
    ∙ c.loop-tries.invariant.1 t

pub apply-requires : goal.apply-requires
apply-requires g c =
    go-room (g.N.Network.net c.args.network.now) c.args.door (rows_of c.loop-tries.table) c.in-Ok.t c.next_try.result c.next_try.ensures c.in-Ok.is

pub loop-tries-preserved : goal.loop-tries-preserved
loop-tries-preserved g c =
    let net = g.N.Network.net c.args.network.now in
    let door = c.args.door in
    let rows = rows_of c.loop-tries.table in
    let tries = c.loop-tries.tries in
    let made = made-is net door rows (rows_of c.apply.new.table) c.in-Ok.t c.next_try.result c.next_try.ensures c.in-Ok.is c.apply.ensures in (
      made.shut,
      λ t.
          ap₂ (λ x n. run net door (c.args.budget - (tries + 1)) (searched x n)) made.same (let e : t + (tries + 1) ≡ t + tries + 1 = omega arith in e)
          ∙ sym (run_step net door c.args.budget tries rows (t + tries) c.loop-tries-test.true made.more) ∙ c.loop-tries.invariant.1 t,
    )

pub returns : goal.returns
returns g c t =
    let net = g.N.Network.net c.args.network.now in
    let rows = rows_of c.loop-tries.table in
    let tries = c.loop-tries.tries in
    ap (λ n. searched rows (t + n)) (let e : c.args.budget ≡ tries = omega arith in e)
    ∙ sym (run_none net c.args.door c.args.budget tries (searched rows (t + tries)) c.loop-tries-test.false) ∙ c.loop-tries.invariant.1 t
