use Rattle.std.proofs.Common.{arith, sym, ◌∙◌}
use Rattle.name_judge.proofs.OnLocals.Named.{more_apart}
use Rattle.name_judge.proofs.OnLocals.Sized.{below_past}
use Rattle.name_judge.proofs.locals.local_names.is_same_number.Goals as goal

pub returns-in-None : goal.returns-in-None
returns-in-None c =
    let past = below_past c.args.written.now (sym c.in-None.is ∙ c.to_u64.ensures) in
    sym (more_apart c.args.written.now c.args.number (omega (arith, past)))
