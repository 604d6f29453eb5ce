use Rattle.scale.specs.BillionthLaws.{one_number}
use Rattle.scale.specs.NineForms.{one_form}
use Rattle.scale.proofs.worked.equal_values_are_equal_numbers.Goals as goal

pub returns : goal.returns
returns c = record { billionths = one_number; figures = one_form }
