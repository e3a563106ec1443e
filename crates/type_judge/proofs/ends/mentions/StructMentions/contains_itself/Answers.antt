use Rattle.std.proofs.Common.{sym, refl}
use Rattle.type_judge.proofs.ends.mentions.StructMentions.contains_itself.Goals as goal

pub returns-then-rises : goal.returns-then-rises
returns-then-rises c = sym (c.if-rises.ensures refl)
