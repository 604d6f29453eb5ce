use Rattle.std.proofs.Common.{◌≡◌, refl, ap, ◌∙◌, arith}
use Rattle.scale.specs.NineFigures.{nine, fit, floor, ceiling, nine_figures}
use Rattle.scale.specs.declared.nine_figures.Decimal.{Decimal}
use Rattle.scale.specs.BillionthLaws.{same_units}
use Rattle.scale.specs.NineForms.{same-decimal}
use Rattle.scale.proofs.worked.work_cases.Goals as goal

less-from-one : (x r : Decimal) → x ≡ nine_figures.one → r ≡ nine_figures.less_down x (nine 100000000 28) → r ≡ nine 999999999 9
unfolding fit floor
less-from-one x r e is = is ∙ ap (λ y. nine_figures.less_down y (nine 100000000 28)) e ∙ same-decimal _ _ refl refl

pub returns : goal.returns
unfolding fit floor ceiling
returns c = record {
  down_is_0 = refl;
  up_is_1 = refl;
  fine_down = same-decimal _ _ refl refl;
  fine_up = same-decimal _ _ refl refl;
  less = same-decimal _ _ refl refl;
  found_down = c.times_down.ensures ∙ same_units _ _ (omega arith);
  found_up = c.times_up.ensures ∙ same_units _ _ (omega arith);
  found_fine_down = c.times_down-2.ensures ∙ same-decimal _ _ (omega arith) (omega arith);
  found_fine_up = c.times_up-2.ensures ∙ same-decimal _ _ refl refl;
  found_less = less-from-one c.one.result c.less_down.result c.one.ensures c.less_down.ensures;
}
