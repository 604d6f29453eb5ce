-- The bytes of a CUT line, and a buffer after it is written.
use Rattle.std.specs.Prelude.{ℕ, ◌+◌, cond, List, [], ◌∷◌, ◌++◌, length, take, drop, Ok, Err, codes, decimal, Result, nat_le}
use Rattle.sets.specs.Masks.{members}
use Rattle.refusals.specs.declared.study_fault.StudyFault.{StudyFault}
use Rattle.refusals.specs.declared.study_fault.StudyFault.TheVariants.{Buffer}

-- the list xs with bs from the place at on
abbrev pub written : ℕ → List ℕ → List ℕ → List ℕ
written at bs xs = take at xs ++ (bs ++ drop (at + length bs) xs)

-- each number in decimal, without leading zeros, after a space
abbrev pub spaced : List ℕ → List ℕ
spaced [] = []
spaced (n ∷ ns) = 32 ∷ (decimal n ++ spaced ns)

-- CUT, the branches, a stroke, the nodes of the node vector
abbrev pub cut_line : ℕ → ℕ → List ℕ
cut_line branches nodes = codes "CUT" ++ (spaced (members 64 branches) ++ (codes " /" ++ (spaced (members 32 nodes) ++ (10 ∷ []))))

-- the length of the line, where the buffer has 320 places
abbrev pub cut_length : ℕ → ℕ → ℕ → Result ℕ StudyFault
cut_length branches nodes places = cond (nat_le 320 places) (Ok (length (cut_line branches nodes))) (Err Buffer)

-- the buffer with the line at its front, where it has 320 places
abbrev pub cut_written : ℕ → ℕ → List ℕ → List ℕ
cut_written branches nodes out = cond (nat_le 320 (length out)) (written 0 (cut_line branches nodes) out) out
