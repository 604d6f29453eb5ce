use Rattle.engine.proofs.SoundRuns.{every-run-is-sound}
use Rattle.engine.proofs.carry.every_run_is_sound.Goals as goal

pub returns : goal.returns
returns g c = every-run-is-sound _
