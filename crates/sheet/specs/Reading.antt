-- The network of an accepted deck.
use Rattle.std.specs.Prelude.{◌≡◌, ℕ, List, Ok}
use Rattle.network.specs.Meaning.{RatedNet, list_rated}
use Rattle.deck.specs.Decks.{Entry, read_bytes, nodes_in, head_in, branches_in}

-- the network and the head are those of the deck's entries
pub record Tells (bytes : List ℕ) (net : RatedNet) (head : ℕ) : Type 0 where
  pub entries : List Entry
  pub accepted : read_bytes 64 bytes ≡ Ok entries
  pub net_is : net ≡ list_rated (nodes_in entries) (branches_in entries)
  pub head_is : head ≡ head_in entries
