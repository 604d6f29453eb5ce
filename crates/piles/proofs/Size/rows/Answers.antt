use Rattle.std.proofs.Common.{[], ◌∷◌, ◌++◌, sym, ap₂, ◌∙◌, arith}
use Rattle.std.proofs.lemmas.List.FromFn.{length-map-range_with_len, map-range_with_len_more}
use Rattle.piles.proofs.Size.rows.Goals as goal

pub push-requires : goal.push-requires
push-requires c = rw (c.loop-k.invariant, length-map-range_with_len) (omega arith)

pub loop-k-preserved : goal.loop-k-preserved
loop-k-preserved c =
    c.push.ensures.items ∙ ap₂ (λ xs x. xs ++ x ∷ []) c.loop-k.invariant c.row.ensures
    ∙ sym (map-range_with_len_more _ 0 c.loop-k.k c.loop-k.k (omega arith))
