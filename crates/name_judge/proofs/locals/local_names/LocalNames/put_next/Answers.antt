use Rattle.std.proofs.Common.{arith, refl, sym}
use Rattle.name_judge.proofs.OnLocals.Named.{mark_brings}
use Rattle.name_judge.proofs.locals.local_names.LocalNames.put_next.Goals as goal

pub returns-clause-names : goal.returns-clause-names
returns-clause-names c =
    let old = c.args.self.now in
    mark_brings _ _ c.args.block (sym old.marks.ok.0) (omega arith) c.in_ok-push.ensures.items refl refl
