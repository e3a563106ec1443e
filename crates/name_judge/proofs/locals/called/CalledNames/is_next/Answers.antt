use Rattle.std.proofs.Common.{arith, sym, ◌∙◌}
use Rattle.name_judge.proofs.OnLocals.Named.{more_apart}
use Rattle.name_judge.proofs.OnLocals.Sized.{below_past}
use Rattle.name_judge.proofs.locals.called.CalledNames.is_next.Goals as goal

pub returns-in-None : goal.returns-in-None
returns-in-None c =
    let past = below_past c.args.number.now (sym c.in-None.is ∙ c.to_u64.ensures) in
    sym (more_apart c.args.number.now c.args.self.now.next (omega (arith, past)))
