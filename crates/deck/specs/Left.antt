-- What an iterator over a deck gives, and what it has left.
use Rattle.std.specs.Prelude.{◌≡◌, ℕ, ◌+◌, ◌≤◌, List, [], ◌∷◌, length, Option, MatchOption}
use Rattle.deck.specs.Words.{lines, tail_words}
use Rattle.deck.specs.Cards.{cards}
use Rattle.deck.specs.Doorways.{doors_in}
use Rattle.deck.specs.declared.line.Line.{Line}
use Rattle.deck.specs.declared.line.Lines.{Lines}
use Rattle.deck.specs.declared.operands.Operands.{Operands}
use Rattle.deck.specs.declared.doors.Doors.{Doors}

-- the lines that are still to come
abbrev pub lines_left : Lines → List (List ℕ)
lines_left s = lines s.rest.now

-- from s came the line l, and t is left
pub record GivesLine (s : Lines) (l : Line) (t : Lines) : Type 0 where
  pub number : l.number ≡ s.number
  pub bytes : lines_left s ≡ l.bytes.now ∷ lines_left t
  pub next : t.number ≡ s.number + 1
  pub shorter : t.number + length t.rest.now ≤ s.number + length s.rest.now

abbrev pub NextLine : Lines → Option Line → Lines → Type 0
NextLine s r t = MatchOption r ((lines_left s ≡ []) × (t ≡ s)) (λ l. GivesLine s l t)

-- the words that are still to come
abbrev pub words_left : Operands → List (List ℕ)
words_left operands = tail_words operands.text.now

-- the doors that are still to come
abbrev pub doors_left : Doors → List ℕ
doors_left doors = doors_in (cards doors.lines.rest.now)
