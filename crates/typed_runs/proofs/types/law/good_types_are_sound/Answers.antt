use Rattle.typed_runs.proofs.OnTypes.Good.{good_types_are_sound}
use Rattle.typed_runs.proofs.types.law.good_types_are_sound.Goals as goal

pub returns : goal.returns
returns c = good_types_are_sound
