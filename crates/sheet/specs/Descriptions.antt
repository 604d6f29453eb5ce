-- The text that describes a deck: its refusal, or its network and its doors.
use Rattle.std.specs.Prelude.{ℕ, zero, suc, List, [], ◌∷◌, ◌++◌, length, Some, None, Ok, Err, codes, decimal, Option, Result}
use Rattle.std.specs.List.{slice_get, flat_map}
use Rattle.refusals.specs.declared.deck_fault.DeckRefusal.{DeckRefusal}
use Rattle.refusals.specs.Refusals.{refusal_text}
use Rattle.deck.specs.Decks.{Entry, read_bytes, nodes_in, head_in, branches_in}
use Rattle.deck.specs.Doorways.{doors_of}
use Rattle.network.specs.declared.branch.Branch.{Branch}
use Rattle.network.specs.declared.rating.Rating.{Rating}
use Rattle.network.specs.Meaning.{RatedNet, branch_text, list_rated}
use Rattle.network.specs.Ratings.{rating_text}

-- NODES n HEAD h BRANCHES b
abbrev pub headline : ℕ → ℕ → ℕ → List ℕ
headline n h b = codes "NODES " ++ (decimal n ++ (codes " HEAD " ++ (decimal h ++ (codes " BRANCHES " ++ (decimal b ++ (10 ∷ []))))))

-- BRANCH k end end c m e, with c the letter of the condition
abbrev pub branch_line : ℕ → Branch → Rating → List ℕ
branch_line k b r = codes "BRANCH " ++ (decimal k ++ (codes " " ++ (branch_text b ++ (codes " " ++ (rating_text r ++ (10 ∷ []))))))

-- the line of a branch with a rating, where there is one
abbrev pub line_at : ℕ → Option Branch → Option Rating → List ℕ
line_at k None r = []
line_at k (Some b) None = []
line_at k (Some b) (Some r) = branch_line k b r

-- the lines of the first n branches
unfoldable pub lines_below : List Branch → List Rating → ℕ → List ℕ
lines_below bs rs zero = []
lines_below bs rs (suc n) = lines_below bs rs n ++ line_at n (slice_get bs n) (slice_get rs n)

abbrev pub network_text : RatedNet → ℕ → List ℕ
network_text net head = headline net.plain.nodes head (length net.plain.branches) ++ lines_below net.plain.branches net.ratings (length net.plain.branches)

-- DOOR d
abbrev pub door_line : ℕ → List ℕ
door_line d = codes "DOOR " ++ (decimal d ++ (10 ∷ []))

abbrev pub door_lines : List ℕ → List ℕ
door_lines ds = flat_map door_line ds

-- DECK REFUSED 3 LAYER N PLACE 5 LINE 7, with the refusal's own figures
abbrev pub refusal_line : DeckRefusal → List ℕ
refusal_line refusal = refusal_text refusal ++ (10 ∷ [])

abbrev pub described : Result (List Entry) DeckRefusal → List ℕ
described (Err refusal) = refusal_line refusal
described (Ok es) = network_text (list_rated (nodes_in es) (branches_in es)) (head_in es) ++ door_lines (doors_of es)

-- what is printed of a deck
abbrev pub description : List ℕ → List ℕ
description bytes = described (read_bytes 64 bytes)
