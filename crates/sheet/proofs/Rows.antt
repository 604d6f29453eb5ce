-- One CUT line after another.
use Rattle.std.proofs.Common.{◌≡◌, ℕ, ◌+◌, ◌++◌, refl, add-one}
use Rattle.std.specs.Result.{result_ok}
use Rattle.network.specs.Meaning.{Net}
use Rattle.engine.specs.Studies.{State, show_answer}
use Rattle.sheet.specs.Sheets.{row_line, cut_lines}

pub cut_lines_more : (net : Net) (s : State) (k : ℕ) → cut_lines net s k ++ row_line (result_ok (show_answer net k s)) ≡ cut_lines net s (k + 1)
unfolding cut_lines
cut_lines_more net s k = rw add-one refl
