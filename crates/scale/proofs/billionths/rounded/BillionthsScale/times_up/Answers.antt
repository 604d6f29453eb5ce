use Rattle.std.proofs.Common.{◌∙◌, ap₂, ◌^◌}
use Rattle.scale.specs.Quotients.{ceil_div}
use Rattle.scale.specs.BillionthLaws.{times-ceiling, ceiling-to-one}
use Rattle.scale.proofs.billionths.rounded.BillionthsScale.times_up.Goals as goal

pub invariant_of-result : goal.invariant_of-result
invariant_of-result c = record { to_one = rw (c.divide_up.ensures, c.exact_units.ensures, c.under.ensures) (ceiling-to-one c.args.x c.args.by) }

pub returns : goal.returns
returns c = times-ceiling c.args.x c.args.by _ (c.divide_up.ensures ∙ ap₂ (λ n e. ceil_div n (10 ^ e)) c.exact_units.ensures c.under.ensures)
