use Rattle.std.proofs.Common.{◌≡◌, length, subst, MatchResult}
use Rattle.engine.specs.Studies.{state_of}
use Rattle.sheet.specs.Sheets.{refused_line, cut_lines, door_text}
use Rattle.sheet.specs.Answers.{answers_text}
use Rattle.sheet.proofs.Doors.{studied-door}
use Rattle.sheet.proofs.door_text.run_door.Goals as goal

pub returns : goal.returns
returns g c door r =
    let run = c.in_ok-carry_out.ensures.run in
    let rated = g.N.RatedNetwork.rated c.args.network.now in
    let head = c.args.head in
    let places = c.carry_out.new.asked in
    let s = state_of c.carry_out.new.study in
    subst
    (λ net. MatchResult c.aimed_in.result (λ _. answers_text door places (cut_lines net s (length s.search.rows)) ≡ door_text rated head door) (λ fault. refused_line door fault ≡ door_text rated head door))
    (g.met.N.RatedNetwork.same c.args.network.now)
    (studied-door rated head door _ places c.index-places-0.result s r run.stands.accepted run.stands.led_here run.every_call_has_its_answer _ c.aimed_in.ensures)
