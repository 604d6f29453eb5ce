use Rattle.std.proofs.Common.{[], ◌∷◌, ◌++◌, length, ap, sym, ◌∙◌, append_assoc, append-nil, arith, length-append}
use Rattle.sets.specs.Masks.{members}
use Rattle.cut_line.specs.Cuts.{spaced}
use Rattle.cut_line.proofs.Texts.{spaced-append, member_fits, members_fit}
use Rattle.cut_line.proofs.push_members.Goals as goal

pub push_number-requires : goal.push_number-requires
push_number-requires g c =
    let fits = member_fits g.W.Width.BITS c.args.set c.in-Some.k c.loop-k.yielded c.next.new.self g.W.Width.narrow (c.loop-k.invariant.parts ∙ ap (λ ks. c.loop-k.yielded ++ ks) c.in-Some.ensures.steps) in
    record { room = omega (arith, ap length c.loop-k.invariant.bytes, length-append c.args.line.now.bytes (spaced c.loop-k.yielded)); small = omega (arith, g.W.Width.narrow) }

pub loop-k-preserved : goal.loop-k-preserved
loop-k-preserved g c = record {
  parts = rw append_assoc (c.loop-k.invariant.parts ∙ ap (λ ks. c.loop-k.yielded ++ ks) c.in-Some.ensures.steps);
  bytes = rw (spaced-append, ← append_assoc) (c.push_number.ensures ∙ ap (λ bs. bs ++ spaced (c.in-Some.k ∷ [])) c.loop-k.invariant.bytes);
}

pub returns : goal.returns
returns g c =
    let all = c.loop-k.invariant.bytes ∙ ap (λ ks. c.args.line.now.bytes ++ spaced ks) (sym (c.loop-k.invariant.parts ∙ ap (λ ks. c.loop-k.yielded ++ ks) c.in-None.ensures.steps.0 ∙ append-nil c.loop-k.yielded)) in
    record { few = omega (arith, ap length all, length-append c.args.line.now.bytes (spaced (members g.W.Width.BITS c.args.set)), members_fit g.W.Width.BITS c.args.set g.W.Width.narrow); bytes = all }
