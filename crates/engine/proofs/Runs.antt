-- Calls since a set-up, and one call more.
use Rattle.std.proofs.Common.{◌≡◌, ℕ, List, [], ◌∷◌, ◌++◌, sym, ap, ◌∙◌}
use Rattle.std.proofs.lemmas.List.Sums.{fold_push}
use Rattle.network.specs.Meaning.{Net, RatedNet, Legal, LegalRated}
use Rattle.scale.specs.Arithmetic.{Arithmetic, Rounded}
use Rattle.engine.specs.declared.call.Call.{Call}
use Rattle.engine.specs.Studies.{State, no_state, set_up, called}
use Rattle.engine.specs.Runs.{StandsAfter}
use Rattle.engine.specs.SoundRuns.{LeadsOn, LeadsOnSoundly, BoundsEncloseTheChance}
use Rattle.engine.proofs.SoundRuns.{lists-minimal-cuts, encloses-the-chance}

pub stands_after-push : {net : Net} {head : ℕ} {calls : List Call} {old : State} → StandsAfter net head calls old → (call : Call) (new : State) → new ≡ called net old call
    → StandsAfter net head (calls ++ (call ∷ [])) new
stands_after-push {net} {head} {calls} p call new e = record {
  accepted = p.accepted;
  led_here = e ∙ ap (λ s. called net s call) p.led_here ∙ sym (fold_push (called net) (set_up net head no_state) calls call);
}

pub leads_on : (net : Net) → Legal net → (call : Call) (old new : State) → new ≡ called net old call → LeadsOn net call old new
leads_on net legal call old new e = record {
  stands = λ head calls p. stands_after-push p call new e;
  cuts = λ head calls p. lists-minimal-cuts net legal head p.accepted (calls ++ (call ∷ []));
}

module _ (net : RatedNet) (legal : LegalRated net) where
  pub leads-on-soundly : {A B : Type 0} (first : Arithmetic A) → Rounded first → (second : Arithmetic B) → Rounded second
      → (plain : Net) → net.plain ≡ plain → (call : Call) (old new : State) → new ≡ called plain old call → LeadsOnSoundly net first second call old new
  leads-on-soundly first down second up plain same call old new e = record {
    stands = λ head calls p. stands_after-push p call new (e ∙ ap (λ n. called n old call) (sym same));
    law = λ head calls p.
        let all = calls ++ (call ∷ []) in
        record {
          cuts = lists-minimal-cuts net.plain legal.plain head p.accepted all;
          in_first = encloses-the-chance net legal head p.accepted first down all;
          in_second = encloses-the-chance net legal head p.accepted second up all;
        };
  }

  pub bounds-enclose : {Num : Type 0} (scale : Arithmetic Num) → Rounded scale → (s : State) → BoundsEncloseTheChance net scale s
  bounds-enclose scale rounded s head calls p = encloses-the-chance net legal head p.accepted scale rounded calls
