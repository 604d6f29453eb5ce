-- The questions of the calls that make a network, in order, each with its number, layer and place.
use Rattle.std.specs.Prelude.{ℕ, ◌+◌, ◌&&◌, List, [], ◌∷◌, length, nat_le, nat_lt}
use Rattle.refusals.specs.Questions.{Question}
use Rattle.refusals.specs.declared.layer.Layer.TheVariants.{Network, Study}
use Rattle.network.specs.declared.branch.TableRow.{TableRow}
use Rattle.network.specs.Ratings.{rating_fits}

-- are there 2 to 32 nodes?
abbrev pub node_count_question : ℕ → Question
node_count_question n = record { number = 1; layer = Network; place = 0; yes = nat_le 2 n && nat_le n 32 }

-- are there 1 to 64 branches?
abbrev pub branch_count_question : ℕ → Question
branch_count_question b = record { number = 2; layer = Network; place = 0; yes = nat_le 1 b && nat_le b 64 }

-- are both ends of branch k below n?
abbrev pub ends_question : ℕ → ℕ → TableRow → Question
ends_question n k row = record { number = 3; layer = Network; place = k; yes = nat_lt row.from n && nat_lt row.to n }

-- is the rating legal that is given for branch k?
abbrev pub rating_question : ℕ → ℕ → ℕ → Question
rating_question k m e = record { number = 4; layer = Network; place = k; yes = rating_fits m e }

-- is the head below n?
abbrev pub head_question : ℕ → ℕ → Question
head_question n head = record { number = 5; layer = Study; place = 0; yes = nat_lt head n }

-- branch by branch, from number k on
abbrev pub branch_questions : ℕ → ℕ → List TableRow → List Question
branch_questions n k [] = []
branch_questions n k (row ∷ rows) = ends_question n k row ∷ rating_question k row.mantissa row.exponent ∷ branch_questions n (k + 1) rows

-- of a list
abbrev pub list_questions : ℕ → List TableRow → List Question
list_questions n rows = node_count_question n ∷ branch_count_question (length rows) ∷ branch_questions n 0 rows

-- of a ring, whose one rating has place 0
abbrev pub ring_questions : ℕ → ℕ → ℕ → List Question
ring_questions n m e = node_count_question n ∷ rating_question 0 m e ∷ []
