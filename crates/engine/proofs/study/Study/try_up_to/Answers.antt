use Rattle.std.proofs.Common.{arith}
use Rattle.engine.proofs.Steps.{still-paid, sum_fits}
use Rattle.engine.proofs.study.Study.try_up_to.Goals as goal

pub overflow_add-self : goal.overflow_add-self
overflow_add-self g c =
    let s = c.args.self.now in
    let p = c.run_tries-tries in
    omega (arith, sum_fits (g.N.Network.legal c.args.network.now) c.args.door c.args.budget s.table p.new.table s.tries p.result (p.ensures s.tries) s.counted)

pub invariant_of-self : goal.invariant_of-self
invariant_of-self g c =
    let s = c.args.self.now in
    let p = c.run_tries-tries in
    record { counted = still-paid (g.N.Network.legal c.args.network.now) c.args.door c.args.budget s.table p.new.table s.tries p.result (p.ensures s.tries) s.counted }
