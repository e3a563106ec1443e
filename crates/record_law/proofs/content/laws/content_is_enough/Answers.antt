use Rattle.record_law.proofs.OnContent.Content.{content_is_enough}
use Rattle.record_law.proofs.content.laws.content_is_enough.Goals as goal

pub returns : goal.returns
returns c = content_is_enough
