-- The text of a study's sheet: for each door its cuts and bounds, or its refusal.
use Rattle.std.specs.Prelude.{◌≡◌, ℕ, zero, suc, List, [], ◌∷◌, ◌++◌, length, Some, None, Ok, Err, codes, decimal, Option, Result, ◌≢◌}
use Rattle.std.specs.List.{flat_map}
use Rattle.std.specs.Result.{result_ok}
use Rattle.refusals.specs.declared.deck_fault.DeckRefusal.{DeckRefusal}
use Rattle.refusals.specs.declared.study_fault.StudyFault.{StudyFault}
use Rattle.refusals.specs.Refusals.{study_refusal}
use Rattle.network.specs.Meaning.{Net, RatedNet, Legal, list_rated}
use Rattle.search.specs.Search.{status}
use Rattle.search.specs.declared.status.Status.{Status}
use Rattle.search.specs.declared.status.Status.TheVariants.{More}
use Rattle.search.specs.Words.{status_word}
use Rattle.scale.specs.declared.billionths.Billionth.{Billionth}
use Rattle.scale.specs.declared.nine_figures.Decimal.{Decimal}
use Rattle.scale.specs.Billionths.{billionths}
use Rattle.scale.specs.NineFigures.{nine_figures}
use Rattle.chance.specs.declared.bounds.Bounds.{Bounds}
use Rattle.cut_line.specs.Cuts.{cut_line}
use Rattle.engine.specs.declared.progress.Progress.{Progress}
use Rattle.engine.specs.declared.call.Call.{Call}
use Rattle.engine.specs.declared.call.Call.TheVariants.{Aim, Advance}
use Rattle.engine.specs.Questions.{door_asked}
use Rattle.engine.specs.Studies.{State, set_up_answer, standing_answer, show_answer, bounds_answer}
use Rattle.engine.specs.Runs.{after}
use Rattle.deck.specs.Decks.{Entry, read_bytes, nodes_in, head_in, branches_in}
use Rattle.deck.specs.Doorways.{doors_of}
use Rattle.sheet.specs.Descriptions.{refusal_line}

-- DOOR d REFUSED number
abbrev pub refused_line : ℕ → StudyFault → List ℕ
refused_line d fault = codes "DOOR " ++ (decimal d ++ (codes " REFUSED " ++ (decimal (study_refusal fault).number ++ (10 ∷ []))))

-- DOOR d CUTS c TRIES t FINISHED, or another status
abbrev pub progress_line : ℕ → ℕ → ℕ → Status → List ℕ
progress_line d tries rows status =
    codes "DOOR " ++ (decimal d ++ (codes " CUTS " ++ (decimal rows ++ (codes " TRIES " ++ (decimal tries ++ (codes " " ++ (status_word status ++ (10 ∷ []))))))))

abbrev pub standing_line : ℕ → Result Progress StudyFault → List ℕ
standing_line d (Ok p) = progress_line d p.tries p.rows p.status
standing_line d (Err fault) = []

-- the CUT line of a row, where there is one
abbrev pub row_line : Option (ℕ × ℕ) → List ℕ
row_line (Some row) = cut_line row.0 row.1
row_line None = []

-- the CUT lines of the first n rows
unfoldable pub cut_lines : Net → State → ℕ → List ℕ
cut_lines net s zero = []
cut_lines net s (suc n) = cut_lines net s n ++ row_line (result_ok (show_answer net n s))

-- the bounds in one scale, each after its word, where there are any
abbrev pub bounds_line : {T : Type 0} → List ℕ → List ℕ → (T → List ℕ) → Option (Bounds T) → List ℕ
bounds_line low_word high_word shown (Some b) = low_word ++ (shown b.low ++ (high_word ++ (shown b.high ++ (10 ∷ []))))
bounds_line low_word high_word shown None = []

-- LOW w HIGH w
abbrev pub low_line : Option (Bounds Billionth) → List ℕ
low_line bounds = bounds_line (codes "LOW ") (codes " HIGH ") (λ w. decimal w.units) bounds

-- figures and exponent
abbrev pub figures : Decimal → List ℕ
figures d = decimal d.figures ++ (codes " " ++ decimal d.exponent)

-- FINE m e m e
abbrev pub fine_line : Option (Bounds Decimal) → List ℕ
fine_line bounds = bounds_line (codes "FINE ") (codes " ") figures bounds

-- how a search stands, its cuts, and its bounds in both scales
abbrev pub study_text : RatedNet → ℕ → State → List ℕ
study_text net d s =
    standing_line d (standing_answer net.plain s)
    ++ (cut_lines net.plain s (length s.search.rows) ++ (low_line (result_ok (bounds_answer net.plain net.ratings billionths s)) ++ fine_line (result_ok (bounds_answer net.plain net.ratings nine_figures s))))

-- what is done for a door: an aim, and two advances that suffice for any search
abbrev pub door_calls : ℕ → List Call
door_calls d = Aim d ∷ Advance 10000 ∷ Advance 10000 ∷ []

-- after these calls on an accepted door the search is finished or full
abbrev pub Ended : Net → ℕ → ℕ → Type 0
Ended net head d =
    set_up_answer net head ≡ Ok tt → door_asked net head d ≡ Ok tt → status net d (after net head (door_calls d)).search.rows ≢ More

abbrev pub TwoAdvancesEnd : Type 0
TwoAdvancesEnd = (net : Net) → Legal net → (head d : ℕ) → Ended net head d

-- the sheet of one door, or the refusal of its head or of the door itself
abbrev pub door_text : RatedNet → ℕ → ℕ → List ℕ
door_text net head d =
    elim (set_up_answer net.plain head) [
      | Err fault ↦ refused_line d fault
      | Ok u ↦ elim (door_asked net.plain head d) [
        | Err fault ↦ refused_line d fault
        | Ok v ↦ study_text net d (after net.plain head (door_calls d))
      ]
    ]

abbrev pub door_texts : RatedNet → ℕ → List ℕ → List ℕ
door_texts net head ds = flat_map (door_text net head) ds

abbrev pub studied : Result (List Entry) DeckRefusal → List ℕ
studied (Err refusal) = refusal_line refusal
studied (Ok es) = door_texts (list_rated (nodes_in es) (branches_in es)) (head_in es) (doors_of es)

-- the sheet of a deck
abbrev pub sheet_text : List ℕ → List ℕ
sheet_text bytes = studied (read_bytes 64 bytes)
