use Rattle.std.proofs.Common.{◌≡◌, ℕ, ◌+◌, ◌-◌, ◌*◌, ◌/◌, ◌%◌, ◌^◌, ◌<◌, ◌≤◌, inl, inr, refl, ⊎_elim, sym, ap, ◌∙◌, arith, mul-le-mul_right, mul-lt-mul_of_pos_right, pow-add, div-add-mod', mod-lt}
use Rattle.std.proofs.lemmas.Bool.{cases_lt}
use Rattle.std.proofs.Math.Nat.{le-div_iff_mul-le, div-lt_iff_lt-mul, pow-le-pow_right}
use Rattle.scale.specs.NineForms.{pow-positive}
use Rattle.scale.proofs.NineSteps.{grown-is, cut-below, cut-above, cut-before, cut-same}
use Rattle.scale.proofs.nine_figures.rounding.FirstNine.of.Goals as goal

-- figures whose first is at place f, with k more, f + k = 8
grown-nine : (m f k : ℕ) → f + k ≡ 8 → 10 ^ f ≤ m → m < 10 * 10 ^ f → (100000000 ≤ m * 10 ^ k) × (m * 10 ^ k < 1000000000)
grown-nine m f k s h i =
    let t : 10 ^ f * 10 ^ k ≡ 100000000 = sym (pow-add 10 f k) ∙ ap (λ n. 10 ^ n) s in
    let p = mul-le-mul_right (10 ^ k) h in
    let q = mul-lt-mul_of_pos_right i (pow-positive k) in
    (omega arith, omega arith)

-- figures whose first is at place f, less the last k
cut-nine : (m f k p : ℕ) → p ≡ 10 ^ k → 0 < p → 8 + k ≤ f → 10 ^ f ≤ m → 100000000 ≤ m / p
cut-nine m f k p e pos s h =
    let t : 10 ^ 8 * 10 ^ k ≤ 10 ^ f = rw (← pow-add 10 8 k) (pow-le-pow_right {n = 10} (omega arith) s) in
    (le-div_iff_mul-le {k = p} {x = 100000000} {y = m} pos).1 (omega arith)

cut-short : (m f k p : ℕ) → p ≡ 10 ^ k → 0 < p → f ≡ 8 + k → m < 10 * 10 ^ f → m / p < 1000000000
cut-short m f k p e pos s h =
    let t : 10 ^ f ≡ 10 ^ 8 * 10 ^ k = ap (λ n. 10 ^ n) s ∙ pow-add 10 8 k in
    (div-lt_iff_lt-mul {k = p} {x = m} {y = 1000000000} pos).1 (omega arith)

pub invariant_of-result : goal.invariant_of-result
invariant_of-result c =
    let n = grown-nine c.args.figures c.args.first (8 - c.args.first) (omega arith) c.requires.at_first.0 c.requires.at_first.1 in
    record { nine = rw c.value.ensures.power n; next = (omega arith, omega arith); below_one = omega arith }

pub invariant_of-result-2 : goal.invariant_of-result-2
invariant_of-result-2 c =
    let m = c.args.figures in
    let first = c.args.first in
    let k = first - 8 in
    let pos = pow-positive k in
    let least = cut-nine m first k (10 ^ k) refl pos (omega arith) c.requires.at_first.0 in
    let most = cut-short m first k (10 ^ k) refl pos (omega arith) c.requires.at_first.1 in record {
      nine = rw c.divide_down.ensures (least, most);
      next = (omega arith, omega arith);
      below_one = omega arith;
    }

pub overflow_mul-grown : goal.overflow_mul-grown
overflow_mul-grown c =
    let n = grown-nine c.args.figures c.args.first (8 - c.args.first) (omega arith) c.requires.at_first.0 c.requires.at_first.1 in
    rw c.value.ensures.power (omega arith)

pub returns-then-first-lt-EXPONENT_OF_ONE : goal.returns-then-first-lt-EXPONENT_OF_ONE
returns-then-first-lt-EXPONENT_OF_ONE c =
    let missing = 8 - c.args.first in
    let same = grown-is c.args.figures c.args.exponent missing in
    let pos = pow-positive c.args.exponent in
    rw c.value.ensures.power (record {
      not_above = omega (arith, same);
      last = omega (arith, same, pos);
      up = inl (refl, same);
    })

pub returns : goal.returns
returns c =
    let m = c.args.figures in
    let e = c.args.exponent in
    let k = c.args.first - 8 in
    let p = 10 ^ k in
    let pos = pow-positive k in
    let within : k ≤ e = omega arith in
    let whole = div-add-mod' m p in
    let rest = mod-lt m pos in
    rw (c.divide_down.ensures, c.divide_up.ensures) (record {
      not_above = cut-below m e k within (m / p) (omega arith);
      last = cut-above m e k within (m / p + 1) (omega arith);
      up = ⊎_elim
          (λ (z : m % p < 1). inl (omega arith, cut-same m e k within (m / p) (omega arith)))
          (λ (z : 1 ≤ m % p). inr (omega arith, cut-before m e k within (m / p) (omega arith)))
          (cases_lt (m % p) 1);
    })
