use Rattle.std.proofs.Common.{◌∙◌, ap₂, ◌^◌, ◌/◌}
use Rattle.scale.specs.BillionthLaws.{times-floor, floor-to-one}
use Rattle.scale.proofs.billionths.rounded.BillionthsScale.times_down.Goals as goal

pub invariant_of-result : goal.invariant_of-result
invariant_of-result c = record { to_one = rw (c.divide_down.ensures, c.exact_units.ensures, c.under.ensures) (floor-to-one c.args.x c.args.by) }

pub returns : goal.returns
returns c = times-floor c.args.x c.args.by _ (c.divide_down.ensures ∙ ap₂ (λ n e. n / 10 ^ e) c.exact_units.ensures c.under.ensures)
