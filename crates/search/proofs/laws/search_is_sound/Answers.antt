use Rattle.search.proofs.Sound.{search-sound}
use Rattle.search.proofs.laws.search_is_sound.Goals as goal

pub returns : goal.returns
returns c = search-sound
