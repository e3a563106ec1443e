use Rattle.std.proofs.Common.{arith, refl}
use Rattle.name_judge.proofs.OnLocals.Named.{small_brings}
use Rattle.name_judge.proofs.locals.kind_names.KindNames.put_small.Goals as goal

pub returns : goal.returns
returns c = small_brings _ _ c.args.number refl refl (omega arith) (λ other. c.in_ok-insert.ensures.updates.0 other)
