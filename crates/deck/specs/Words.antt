-- The lines of a deck, the words of a line, and the number that a word writes.
use Rattle.std.specs.Prelude.{ℕ, zero, suc, Bool, true, not, cond, ◌&&◌, List, [], ◌∷◌, length, Some, None, Option, ◌==◌, nat_le}
use Rattle.std.specs.List.{take_while}
use Rattle.std.specs.Str.Parse.{digits_value}
use Rattle.std.specs.Str.{all_ascii_digits}

-- one byte more in front of the first piece
abbrev pub onto : ℕ → List (List ℕ) → List (List ℕ)
onto c [] = (c ∷ []) ∷ []
onto c (p ∷ ps) = (c ∷ p) ∷ ps

-- the pieces of bs that the byte sep ends; what follows the last one is cut as after
abbrev pub cut_at : ℕ → List (List ℕ) → List ℕ → List (List ℕ)
cut_at sep after [] = after
cut_at sep after (c ∷ cs) = cond (c == sep) ([] ∷ cut_at sep after cs) (onto c (cut_at sep after cs))

-- each line is ended by byte 10
abbrev pub lines : List ℕ → List (List ℕ)
lines bs = cut_at 10 [] bs

-- every space parts two words, so a line has one word more than spaces
abbrev pub words : List ℕ → List (List ℕ)
words bs = cut_at 32 ([] ∷ []) bs

-- how many bytes stand before the first that is sep
abbrev pub length_before : ℕ → List ℕ → ℕ
length_before sep bs = length (take_while (λ c. not (c == sep)) bs)

-- does a word end where these bytes begin? Then they are empty, or begin with a space
abbrev pub ends_word : List ℕ → Bool
ends_word [] = true
ends_word (c ∷ cs) = c == 32

-- the words that follow a word, from the space after it on
abbrev pub tail_words : List ℕ → List (List ℕ)
tail_words [] = []
tail_words (c ∷ cs) = words cs

-- 1 to 10 decimal digits, at most 4,294,967,295
abbrev pub number_of : List ℕ → Option ℕ
number_of w = cond (nat_le 1 (length w) && nat_le (length w) 10 && all_ascii_digits w && nat_le (digits_value 10 w) 4294967295) (Some (digits_value 10 w)) None

abbrev pub prefixed : Option ℕ → Option (List ℕ) → Option (List ℕ)
prefixed None ns = None
prefixed (Some n) None = None
prefixed (Some n) (Some ns) = Some (n ∷ ns)

-- the numbers of exactly k words
abbrev pub numbers_in : ℕ → List (List ℕ) → Option (List ℕ)
numbers_in zero [] = Some []
numbers_in zero (w ∷ ws) = None
numbers_in (suc k) [] = None
numbers_in (suc k) (w ∷ ws) = prefixed (number_of w) (numbers_in k ws)
