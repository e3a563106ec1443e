use Rattle.name_judge.specs.Locals.Names.{AreGathered, locals_of}
use Rattle.name_judge.proofs.OnLocals.Named.{has_told}
use Rattle.name_judge.proofs.locals.gathered.FunctionLocals.has.Goals as goal

pub returns : goal.returns
unfolding AreGathered
returns c =
    let locals = c.args.self.now in
    has_told locals.names (locals_of locals) c.args.block _ _ c.requires c.has.ensures
