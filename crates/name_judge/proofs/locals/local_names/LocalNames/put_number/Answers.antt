use Rattle.std.proofs.Common.{refl}
use Rattle.std.proofs.lemmas.Result.{on_ok_weaker}
use Rattle.name_judge.proofs.OnLocals.Named.{label_brings, value_brings}
use Rattle.name_judge.proofs.locals.local_names.LocalNames.put_number.Goals as goal

pub returns-then-block-clause-names : goal.returns-then-block-clause-names
returns-then-block-clause-names c = on_ok_weaker c.put_number.result (λ put. label_brings _ _ _ _ c.if-block.true refl refl put) c.put_number.ensures

pub returns-else-block-clause-names : goal.returns-else-block-clause-names
returns-else-block-clause-names c = on_ok_weaker c.put_number-else-block.result (λ put. value_brings _ _ _ _ c.if-block.false refl refl put) c.put_number-else-block.ensures
