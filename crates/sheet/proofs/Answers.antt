-- The text of answers, place by place.
use Rattle.std.proofs.Common.{◌≡◌, ℕ, List, [], ◌∷◌, ◌++◌, length, get_or, Option, ap₂, ◌∙◌, arith}
use Rattle.scale.specs.declared.billionths.Billionth.{Billionth}
use Rattle.scale.specs.declared.nine_figures.Decimal.{Decimal}
use Rattle.chance.specs.declared.bounds.Bounds.{Bounds}
use Rattle.engine.specs.declared.progress.Progress.{Progress}
use Rattle.engine.specs.declared.call.Asked.{Asked}
use Rattle.sheet.specs.Sheets.{low_line, fine_line}
use Rattle.sheet.specs.Answers.{made_in, low_in, fine_in, advances_line, answers_text}

pub answers_text-parts : (d : ℕ) (rows : List ℕ) (places : List (Asked Billionth Decimal)) → length places ≡ 5
    → (first second low fine : Asked Billionth Decimal) (p q : Option Progress) (b : Option (Bounds Billionth)) (f : Option (Bounds Decimal))
    → p ≡ made_in (get_or places 1 first).answer → q ≡ made_in (get_or places 2 second).answer → b ≡ low_in (get_or places 3 low).answer → f ≡ fine_in (get_or places 4 fine).answer
    → advances_line d p q ++ (rows ++ (low_line b ++ fine_line f)) ≡ answers_text d places rows
answers_text-parts d rows (_ ∷ a ∷ b ∷ _ ∷ _ ∷ []) l first second low fine p q x y h1 h2 h3 h4 =
    ap₂ (λ (m n : Option Progress). advances_line d m n ++ (rows ++ (low_line x ++ fine_line y))) h1 h2
    ∙ ap₂ (λ (m : Option (Bounds Billionth)) (n : Option (Bounds Decimal)). advances_line d (made_in a.answer) (made_in b.answer) ++ (rows ++ (low_line m ++ fine_line n))) h3 h4
answers_text-parts d rows [] l first second low fine p q x y h1 h2 h3 h4 = absurd (omega arith)
answers_text-parts d rows (_ ∷ []) l first second low fine p q x y h1 h2 h3 h4 = absurd (omega arith)
answers_text-parts d rows (_ ∷ _ ∷ []) l first second low fine p q x y h1 h2 h3 h4 = absurd (omega arith)
answers_text-parts d rows (_ ∷ _ ∷ _ ∷ []) l first second low fine p q x y h1 h2 h3 h4 = absurd (omega arith)
answers_text-parts d rows (_ ∷ _ ∷ _ ∷ _ ∷ []) l first second low fine p q x y h1 h2 h3 h4 = absurd (omega arith)
answers_text-parts d rows (_ ∷ _ ∷ _ ∷ _ ∷ _ ∷ _ ∷ _) l first second low fine p q x y h1 h2 h3 h4 = absurd (omega arith)
