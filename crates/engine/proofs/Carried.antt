-- A list of calls carried out one after another, as a loop takes it.
use Rattle.std.proofs.Common.{◌≡◌, ℕ, ◌+◌, ◌<◌, ◌≤◌, List, [], ◌∷◌, ◌++◌, length, get_or, take, drop, set, Some, Ok, fold, sym, refl, ap, ◌∙◌, ap₂, subst, arith}
use Rattle.std.proofs.lemmas.List.{take_more, take_more_set, take_all, drop-set-lt, length-map, get_or-map, get_or-drop}
use Rattle.std.proofs.lemmas.List.Sums.{fold_push}
use Rattle.std.proofs.lemmas.Grind.{drop_more_same}
use Rattle.network.specs.declared.rating.Rating.{Rating}
use Rattle.network.specs.Meaning.{Net, RatedNet, LegalRated}
use Rattle.scale.specs.Arithmetic.{Arithmetic, Rounded}
use Rattle.engine.specs.declared.call.Call.{Call}
use Rattle.engine.specs.declared.call.Answer.{Answer}
use Rattle.engine.specs.declared.call.Asked.{Asked}
use Rattle.engine.specs.Studies.{State, no_state, set_up, set_up_by, set_up_answer, called}
use Rattle.engine.specs.Runs.{after_set_up, answer, answered, calls_of, buffer_after_call, buffer_after}
use Rattle.engine.specs.SoundRuns.{CarriedOut}
use Rattle.engine.proofs.SoundRuns.{lists-minimal-cuts, encloses-the-chance}

same-at : {X : Type 0} (xs ys : List X) (k : ℕ) (d : X) → drop k xs ≡ drop k ys → get_or xs k d ≡ get_or ys k d
same-at xs ys k d e =
    let z : k + 0 ≡ k = omega arith in
    ap (λ n. get_or xs n d) (sym z) ∙ sym (get_or-drop k xs 0 d) ∙ ap (λ r. get_or r 0 d) e ∙ get_or-drop k ys 0 d ∙ ap (λ n. get_or ys n d) z

module _ {A B : Type 0} (net : Net) (ratings : List Rating) (first : Arithmetic A) (second : Arithmetic B) (places : ℕ) where
  pub answered-push : (calls : List Call) (c : Call) (s : State)
      → answered net ratings first second places s (calls ++ (c ∷ []))
      ≡ answered net ratings first second places s calls ++ (record { call = c; answer = Some (answer net ratings first second places (fold (called net) s calls) c) } ∷ [])
  answered-push [] c s = refl
  answered-push (b ∷ calls) c s = ap (λ l. record { call = b; answer = Some (answer net ratings first second places s b) } ∷ l) (answered-push calls c (called net s b))

  buffer_after-push : (calls : List Call) (c : Call) (s : State) (buffer : List ℕ)
      → buffer_after net s buffer (calls ++ (c ∷ [])) ≡ buffer_after_call net (fold (called net) s calls) (buffer_after net s buffer calls) c
  buffer_after-push [] c s buffer = refl
  buffer_after-push (b ∷ calls) c s buffer = buffer_after-push calls c (called net s b) (buffer_after_call net s buffer b)

  module _ (start : State) (begun : List (Asked A B)) (buffer : List ℕ) where
    abbrev calls : List Call
    calls = calls_of begun

    -- the first k calls are made, and the others are still as they came
    pub record MadeFirst (k : ℕ) (s : State) (asked : List (Asked A B)) (lines : List ℕ) : Type 0 where
      pub led : s ≡ fold (called net) start (take k calls)
      pub answers : take k asked ≡ answered net ratings first second places start (take k calls)
      pub others : drop k asked ≡ drop k begun
      pub written : lines ≡ buffer_after net start buffer (take k calls)

    pub made_first-more : {k : ℕ} {s : State} {asked : List (Asked A B)} {lines : List ℕ} → MadeFirst k s asked lines
        → (d : Asked A B) → k < length asked → length asked ≡ length begun → (room : ℕ) → room ≡ places → (t : State) (a : Answer A B) (next : List ℕ)
        → t ≡ called net s (get_or asked k d).call → a ≡ answer net ratings first second room s (get_or asked k d).call → next ≡ buffer_after_call net s lines (get_or asked k d).call
        → MadeFirst (k + 1) t (set asked k (record { call = (get_or asked k d).call; answer = Some a })) next
    made_first-more {k} {s} {asked} {lines} p d l same room long t a next e f h =
        let call = (get_or asked k d).call in
        let within : k < length calls = omega (arith, length-map begun (λ (b : Asked A B). b.call)) in
        let in_begun : k < length begun = omega arith in
        let here : get_or calls k call ≡ call = get_or-map (λ (b : Asked A B). b.call) begun k d call in_begun ∙ ap (λ (b : Asked A B). b.call) (same-at begun asked k d (sym p.others)) in
        let more : take (k + 1) calls ≡ take k calls ++ (call ∷ []) = take_more calls k call within ∙ ap (λ c. take k calls ++ (c ∷ [])) here in
        record {
          led = e ∙ ap (λ u. called net u call) p.led ∙ sym (fold_push (called net) start (take k calls) call) ∙ ap (fold (called net) start) (sym more);
          answers = take_more_set asked k _ l
              ∙ ap₂ (λ (before : List (Asked A B)) (b : Answer A B). before ++ (record { call = call; answer = Some b } ∷ [])) p.answers
              (f ∙ ap₂ (λ (n : ℕ) (u : State). answer net ratings first second n u call) long p.led)
              ∙ sym (answered-push (take k calls) call start) ∙ ap (answered net ratings first second places start) (sym more);
          others = drop-set-lt (k + 1) asked k _ (omega arith) ∙ drop_more_same asked begun k p.others;
          written = h ∙ ap₂ (λ (u : State) (b : List ℕ). buffer_after_call net u b call) p.led p.written
              ∙ sym (buffer_after-push (take k calls) call start buffer) ∙ ap (buffer_after net start buffer) (sym more);
        }

-- all calls made
module _ {A B : Type 0} (net : RatedNet) (legal : LegalRated net) (head : ℕ) (first : Arithmetic A) (down : Rounded first) (second : Arithmetic B) (up : Rounded second) where
  forgotten : set_up_answer net.plain head ≡ Ok tt → (s t : State) → set_up net.plain head s ≡ set_up net.plain head t
  forgotten e s t = ap (set_up_by head s) e ∙ sym (ap (set_up_by head t) e)

  module _ (begun asked : List (Asked A B)) (buffer lines : List ℕ) (held start study : State) (k : ℕ) (all : length begun ≤ k) (same : length asked ≡ length begun) where
    -- from where `plain` is known to be the network without its ratings
    pub carried-out : (plain : Net) → net.plain ≡ plain → set_up_answer plain head ≡ Ok tt → start ≡ set_up plain head held
        → MadeFirst plain net.ratings first second (length buffer) start begun buffer k study asked lines
        → CarriedOut net head first second (calls_of begun) study asked buffer lines
    carried-out plain e =
        subst
        (λ (n : Net). set_up_answer n head ≡ Ok tt → start ≡ set_up n head held → MadeFirst n net.ratings first second (length buffer) start begun buffer k study asked lines
        → CarriedOut net head first second (calls_of begun) study asked buffer lines)
        e once
      where
        whole : take k (calls_of begun) ≡ calls_of begun
        whole = take_all k (calls_of begun) (omega (arith, length-map begun (λ (a : Asked A B). a.call)))

        once : set_up_answer net.plain head ≡ Ok tt → start ≡ set_up net.plain head held
            → MadeFirst net.plain net.ratings first second (length buffer) start begun buffer k study asked lines
            → CarriedOut net head first second (calls_of begun) study asked buffer lines
        once accepted s p = record {
          stands = record { accepted = accepted; led_here = (held_by no_state).0 };
          every_call_has_its_answer = (held_by no_state).1;
          every_line_is_written = (held_by no_state).2;
          what_a_study_held_before_is_forgotten = held_by;
          law = record {
            cuts = lists-minimal-cuts net.plain legal.plain head accepted (calls_of begun);
            in_first = encloses-the-chance net legal head accepted first down (calls_of begun);
            in_second = encloses-the-chance net legal head accepted second up (calls_of begun);
          };
        }
          where
            held_by : (other : State)
                → (study ≡ after_set_up net.plain head other (calls_of begun))
                × (asked ≡ answered net.plain net.ratings first second (length buffer) (set_up net.plain head other) (calls_of begun))
                × (lines ≡ buffer_after net.plain (set_up net.plain head other) buffer (calls_of begun))
            held_by other =
                let anew = s ∙ forgotten accepted held other in (
                  p.led ∙ ap₂ (fold (called net.plain)) anew whole,
                  sym (take_all k asked (omega arith)) ∙ p.answers ∙ ap₂ (answered net.plain net.ratings first second (length buffer)) anew whole,
                  p.written ∙ ap₂ (λ (t : State) (calls : List Call). buffer_after net.plain t buffer calls) anew whole,
                )
