-- The five words that a line may begin with, and the card of a line.
use Rattle.std.specs.Prelude.{ℕ, Bool, true, false, cond, ◌&&◌, List, [], ◌∷◌, map, Some, None, codes, Option, ◌==◌}
use Rattle.deck.specs.Words.{lines, words, numbers_in}

pub data Keyword : Type 0 where
  nodes : Keyword
  branch : Keyword
  failed : Keyword
  working : Keyword
  door : Keyword

abbrev pub spelled : Keyword → List ℕ
spelled nodes = codes "NODES"
spelled branch = codes "BRANCH"
spelled failed = codes "FAILED"
spelled working = codes "WORKING"
spelled door = codes "DOOR"

-- how many numbers follow each word: NODES n h, BRANCH from to mantissa exponent, FAILED k, WORKING k, DOOR d
abbrev pub numbers_for : Keyword → ℕ
numbers_for nodes = 2
numbers_for branch = 4
numbers_for failed = 1
numbers_for working = 1
numbers_for door = 1

-- are two words the same, byte for byte?
abbrev pub same : List ℕ → List ℕ → Bool
same [] [] = true
same [] (y ∷ ys) = false
same (x ∷ xs) [] = false
same (x ∷ xs) (y ∷ ys) = x == y && same xs ys

abbrev pub keyword_for : List ℕ → Option Keyword
keyword_for w =
    cond (same w (spelled nodes)) (Some nodes)
    (cond (same w (spelled branch)) (Some branch)
    (cond (same w (spelled failed)) (Some failed)
    (cond (same w (spelled working)) (Some working)
    (cond (same w (spelled door)) (Some door) None))))

-- what a line says: none of the five words, or a word with its numbers, None where those are not exactly the word's
pub data Reading : Type 0 where
  unknown : Reading
  card : Keyword → Option (List ℕ) → Reading

abbrev pub card_by : Option Keyword → List (List ℕ) → Reading
card_by None ws = unknown
card_by (Some k) ws = card k (numbers_in (numbers_for k) ws)

-- the card of a line, by its words
abbrev pub card_on : List (List ℕ) → Reading
card_on [] = unknown
card_on (w ∷ ws) = card_by (keyword_for w) ws

-- the cards of a deck, one to a line
abbrev pub cards : List ℕ → List Reading
cards bs = map (λ l. card_on (words l)) (lines bs)
