-- The bounds bracket the exact chance.
use Rattle.std.proofs.Common.{◌≡◌, ℕ, ◌≤◌, Bool, true, false, T, List, [], ◌∷◌, map, sym, refl, ap, ◌∙◌, subst, inl, inr, mul-le-mul_right, arith}
use Rattle.std.specs.List.{AllByRecursion}
use Rattle.std.proofs.ByRecursion.{All-weaker, All-map}
use Rattle.network.specs.Meaning.{RatedNet, LegalRated}
use Rattle.scale.specs.Fractions.{Fraction, ◌≤ᶠ◌}
use Rattle.scale.specs.Arithmetic.{Arithmetic, Rounded}
use Rattle.chance.specs.Bounds.{united, prefixes, added_up, row_sum, pair_sum, difference, low, high}
use Rattle.chance.specs.CutOff.{AbleSet, cut_off_chance}
use Rattle.chance.specs.Bracket.{Brackets}
use Rattle.chance.proofs.Risks.{Risk, AbleRisks, ratings_of}
use Rattle.chance.proofs.OverSets.{units, exact}
use Rattle.chance.proofs.Masks.{T_true}
use Rattle.chance.proofs.Ratios.{Under, Over}
use Rattle.chance.proofs.Totals.{Growing, Cutting, Covering, all-united, exact-le, low-total, high-total}
use Rattle.chance.proofs.Rounding.{sums-below, sums-reach, difference_below, reached}
use Rattle.chance.proofs.Narrow.{largest-below}
use Rattle.chance.proofs.Numbers.{risks, ratings-same, able-to, able-from, exact_same, under_same}

all-prefixes : (P : ℕ → Type 0) (rows : List ℕ) → AllByRecursion P rows → AllByRecursion (AllByRecursion P) (prefixes rows)
unfolding prefixes
all-prefixes P [] h = tt
all-prefixes P (c ∷ rows) h =
    ((h.0, tt), All-map (AllByRecursion P) (λ p. c ∷ p) (prefixes rows) (All-weaker (AllByRecursion P) (λ p. P c × AllByRecursion P p) (λ p q. (h.0, q)) (prefixes rows) (all-prefixes P rows h.1)))

module _ {Num : Type 0} (s : Arithmetic Num) (law : Rounded s) (bs : List Risk) (cut : ℕ → Bool) where
  able-rows : (rows : List ℕ) → Cutting bs cut rows → AllByRecursion (AbleRisks bs) rows
  able-rows rows are = All-weaker (λ c. AbleRisks bs c × T (cut c)) (AbleRisks bs) (λ c a. a.0) rows are

  difference-holds : Growing bs cut → (rows : List ℕ) → Cutting bs cut rows → Under (s.value (difference s (ratings_of bs) rows)) (exact bs cut) (units bs)
  unfolding row_sum added_up
  difference-holds grows rows are =
      let able = able-rows rows are in
      difference_below s law bs (row_sum s (ratings_of bs) rows) (pair_sum s (ratings_of bs) rows) _ _ (exact bs cut)
      (sums-below s law bs rows able s.zero 0 (omega (arith, mul-le-mul_right (units bs) (zero-top))))
      (sums-reach s law bs (united [] rows) (all-united bs [] rows tt able) s.zero 0 (inr (omega arith)))
      (omega (arith, low-total bs cut grows rows are))
    where
      zero-top : (s.value s.zero).top ≤ 0
      zero-top = omega (arith, law.zero_is_0)

  low-under : (e : Fraction) → e.top ≡ exact bs cut → e.under ≡ units bs → Growing bs cut → (rows : List ℕ) → Cutting bs cut rows → s.value (low s (ratings_of bs) rows) ≤ᶠ e
  unfolding low
  low-under e t u grows rows are =
      largest-below s law e (map (difference s (ratings_of bs)) (prefixes rows))
      (All-map (λ n. s.value n ≤ᶠ e) (difference s (ratings_of bs)) (prefixes rows)
      (All-weaker (AllByRecursion Cutter) (λ p. s.value (difference s (ratings_of bs) p) ≤ᶠ e) (λ p a. rw (t, u) (difference-holds grows p a)) (prefixes rows) (all-prefixes Cutter rows are)))
    where
      Cutter : ℕ → Type 0
      Cutter c = AbleRisks bs c × T (cut c)

  high-over : (rows : List ℕ) → Cutting bs cut rows → (finished : Bool) → (finished ≡ true → Covering bs cut rows)
      → Over (exact bs cut) (units bs) (s.value (high s (ratings_of bs) finished rows))
  unfolding high added_up
  high-over rows are false all =
      reached s law bs s.one (exact bs cut) (exact bs cut) (inl (omega (arith, law.one_is_1))) (omega arith) (exact-le bs cut)
  high-over rows are true all =
      let able = able-rows rows are in
      reached s law bs (added_up s (ratings_of bs) s.zero rows) _ (exact bs cut) (sums-reach s law bs rows able s.zero 0 (inr (omega arith)))
      (omega (arith, high-total bs cut rows able (all refl))) (exact-le bs cut)

true-T : (b : Bool) → b ≡ true → T b
true-T b e = rw e tt

over-is : (e q : Fraction) {x y : ℕ} → x ≡ e.top → y ≡ e.under → Over x y q → e ≤ᶠ q
over-is e q t u h = rw (← t, ← u) h

pub brackets : {Num : Type 0} (s : Arithmetic Num) → Rounded s → (net : RatedNet) → LegalRated net → (rows : List ℕ) (finished : Bool) (lower upper : Num)
    → lower ≡ low s net.ratings rows → upper ≡ high s net.ratings finished rows → Brackets s net rows finished lower upper
brackets s law net legal rows finished lower upper is-low is-high cut grows are all =
    let bs = risks net in
    let same = ratings-same net legal in
    let growing : Growing bs cut = λ c z a b w t. true-T _ (grows c z (able-to net legal c a) (able-to net legal z b) w (T_true _ t)) in
    let cutting : Cutting bs cut rows =
    All-weaker (λ Z. AbleSet net Z × (cut Z ≡ true)) (λ c. AbleRisks bs c × T (cut c)) (λ c a. (able-from net legal c a.0, true-T _ a.1)) rows are in
    let covering : finished ≡ true → Covering bs cut rows = λ f z a t. all f z (able-to net legal z a) (T_true _ t) in
    let e = cut_off_chance net cut in (
      subst (λ n. s.value n ≤ᶠ e) (sym (is-low ∙ ap (λ rs. low s rs rows) (sym same))) (low-under s law bs cut e (sym (exact_same net legal cut)) (sym (under_same net legal cut)) growing rows cutting),
      over-is e (s.value upper) (exact_same net legal cut) (under_same net legal cut)
          (subst (λ n. Over (exact bs cut) (units bs) (s.value n)) (sym (is-high ∙ ap (λ rs. high s rs finished rows) (sym same))) (high-over s law bs cut rows cutting finished covering)),
    )
