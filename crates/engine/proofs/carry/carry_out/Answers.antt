use Rattle.std.proofs.Common.{◌≡◌, Ok, rules, arith}
use Rattle.engine.specs.Studies.{state_of, set_up_answer}
use Rattle.engine.proofs.Carried.{made_first-more, carried-out}
use Rattle.engine.proofs.carry.carry_out.Goals as goal

pub loop-place-preserved : goal.loop-place-preserved
loop-place-preserved g c =
    made_first-more _ _ _ _ _ _ _ _ c.loop-place.invariant c.place-item.result (omega arith) (omega arith) _ c.loop-place.auto.buffer _ _ _ c.make_call.ensures.state c.make_call.ensures.answer
    c.make_call.ensures.line

pub returns-clause-run : goal.returns-clause-run
returns-clause-run g c =
    let network = c.args.network.now in
    let accepted : set_up_answer (g.N.Network.net network) c.args.head ≡ Ok tt = search rules in
    carried-out (g.N.RatedNetwork.rated network) (g.N.RatedNetwork.legal network) c.args.head g.S.Scale.arithmetic g.met.S.Scale.rounded g.T.Scale.arithmetic g.met.T.Scale.rounded c.args.asked.now
    c.loop-place.asked c.args.buffer.now c.loop-place.buffer (state_of c.args.study.now) (state_of c.set_up.new.self) (state_of c.loop-place.study) c.loop-place.place-index c.loop-place-test.false
    (omega arith) _ (g.met.N.RatedNetwork.same network) accepted c.set_up.ensures.state c.loop-place.invariant
