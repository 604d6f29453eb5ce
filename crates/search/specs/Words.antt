-- How a search stands, in a word.
use Rattle.std.specs.Prelude.{ℕ, List, codes}
use Rattle.search.specs.declared.status.Status.{Status}
use Rattle.search.specs.declared.status.Status.TheVariants.{Finished, Full, More}

abbrev pub status_word : Status → List ℕ
status_word Finished = codes "FINISHED"
status_word Full = codes "FULL"
status_word More = codes "MORE"
