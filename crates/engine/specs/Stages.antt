-- The head and the door of a stage.
use Rattle.std.specs.Prelude.{ℕ, Some, None, Option}
use Rattle.engine.specs.declared.stage.Stage.{Stage}
use Rattle.engine.specs.declared.stage.Stage.TheVariants.{Fresh, SetUp, Aimed}

abbrev pub head_of : Stage → Option ℕ
head_of Fresh = None
head_of (SetUp head) = Some head
head_of (Aimed head door) = Some head

abbrev pub door_of : Stage → Option ℕ
door_of Fresh = None
door_of (SetUp head) = None
door_of (Aimed head door) = Some door
