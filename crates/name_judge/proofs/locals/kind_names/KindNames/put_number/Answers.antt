use Rattle.std.proofs.Common.{refl}
use Rattle.name_judge.proofs.OnLocals.Named.{large_brings}
use Rattle.name_judge.proofs.OnLocals.Sized.{below_past}
use Rattle.name_judge.proofs.locals.kind_names.KindNames.put_number.Goals as goal

pub returns : goal.returns
returns c = large_brings _ _ c.args.number.now c.in_ok-digits.digits refl refl (below_past _ c.in_default.ensures) c.in_ok-digits.ensures (λ q. c.in_ok-insert.ensures.updates.0 q)
