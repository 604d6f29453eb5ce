-- The doors of a deck.
use Rattle.std.specs.Prelude.{ℕ, List, [], ◌∷◌, ◌++◌, Some, None, Option, slice_index}
use Rattle.deck.specs.Cards.{nodes, branch, failed, working, door, Reading, unknown, card}
use Rattle.deck.specs.Decks.{Entry, nodes_are, branch_is, mark_is, door_is}

-- the door of a card
abbrev pub door_on : Reading → Option ℕ
door_on unknown = None
door_on (card nodes ns) = None
door_on (card branch ns) = None
door_on (card failed ns) = None
door_on (card working ns) = None
door_on (card door None) = None
door_on (card door (Some ns)) = Some (slice_index ns 0)

abbrev pub before : Option ℕ → List ℕ → List ℕ
before None ds = ds
before (Some d) ds = d ∷ ds

-- the doors of the cards, in their order
abbrev pub doors_in : List Reading → List ℕ
doors_in [] = []
doors_in (c ∷ cs) = before (door_on c) (doors_in cs)

-- the doors of the entries, of which the last comes first
abbrev pub doors_of : List Entry → List ℕ
doors_of [] = []
doors_of (nodes_are n h ∷ es) = doors_of es
doors_of (branch_is b ∷ es) = doors_of es
doors_of (mark_is k c ∷ es) = doors_of es
doors_of (door_is d ∷ es) = doors_of es ++ d ∷ []
