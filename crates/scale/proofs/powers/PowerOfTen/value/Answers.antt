use Rattle.std.proofs.Common.{◌≡◌, ℕ, zero, suc, ◌*◌, ◌^◌, ◌<◌, List, [], ◌∷◌, get_or, ◌∙◌, arith, pow-suc}
use Rattle.scale.specs.NineForms.{pow-positive}
use Rattle.scale.proofs.powers.PowerOfTen.value.Goals as goal

-- p, 10 p, 100 p and so on, n in all
abbrev tens : ℕ → ℕ → List ℕ
tens zero p = []
tens (suc n) p = p ∷ tens n (p * 10)

tens-at : (n p e : ℕ) → e < n → get_or (tens n p) e 0 ≡ p * 10 ^ e
tens-at zero p e h = absurd (omega arith)
tens-at (suc n) p zero h = omega arith
tens-at (suc n) p (suc e) h = tens-at n (p * 10) e (omega arith) ∙ let s = pow-suc 10 e in rw s (omega arith)

pub returns : goal.returns
returns c =
    let at : get_or (tens 19 1) c.args.self.exponent 0 ≡ 1 * 10 ^ c.args.self.exponent = tens-at 19 1 c.args.self.exponent (omega arith) in
    let positive = pow-positive c.args.self.exponent in
    record { power = omega (arith, at); positive = omega (arith, at) }
