use Rattle.name_judge.specs.Locals.Names.{AreGathered, locals_of}
use Rattle.name_judge.proofs.locals.gathered.FunctionLocals.is_in_turn.Goals as goal

pub returns : goal.returns
unfolding AreGathered
returns c = c.is_in_turn.ensures (locals_of c.args.self.now) c.requires
