-- Two advances of 10,000 tries end every search.
use Rattle.std.proofs.Common.{◌≡◌, ℕ, Ok, sym, refl, ap, ◌∙◌, subst, zero-add, arith}
use Rattle.network.specs.Meaning.{Net}
use Rattle.search.specs.Search.{Search, searched, aimed, run, status}
use Rattle.search.specs.declared.status.Status.TheVariants.{More}
use Rattle.search.proofs.Portions.{run-adds}
use Rattle.search.proofs.Full.{run-room}
use Rattle.search.proofs.Paid.{ended-after}
use Rattle.engine.specs.Questions.{door_asked}
use Rattle.engine.specs.Studies.{set_up_answer}
use Rattle.engine.specs.Runs.{after}
use Rattle.sheet.specs.Sheets.{door_calls, TwoAdvancesEnd}

-- the study after an accepted aim and two advances
abbrev end : Net → ℕ → ℕ → Search
end net head d = run net d 10000 (run net d 10000 (aimed net head d))

stands : (net : Net) (head d : ℕ) → set_up_answer net head ≡ Ok tt → door_asked net head d ≡ Ok tt → (after net head (door_calls d)).search ≡ end net head d
stands net head d e f = rw (e, f) refl

pub two-advances-end : TwoAdvancesEnd
two-advances-end net legal head d e f m =
    let s = aimed net head d in
    let whole = run-adds net d 10000 10000 s in
    let room = run-room net d 20000 s (omega arith) in
    let more = subst (λ t. status net d t.rows ≡ More) (stands net head d e f ∙ sym whole) m in
    let last = run net d 20000 s in
    ended-after legal d 20000 s.rows last.rows 0 last.tries (ap (searched last.rows) (zero-add last.tries)) (omega arith) room (omega arith) more
