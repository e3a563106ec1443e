use Rattle.std.proofs.Common.{◌<◌, length, sym, subst}
use Rattle.instruction_verify.specs.Last.ValuesById.{IsOf}
use Rattle.instruction_verify.specs.declared.last.local_type.LocalType.{LocalType}
use Rattle.instruction_verify.proofs.last.written.type_of.Goals as goal

pub returns-clause-known : goal.returns-clause-known
returns-clause-known c =
    subst (λ (x : LocalType). IsOf c.args.judge.now.table x) (sym c.index-value_types-number.is) (c.requires.types c.number.result c.index-value_types-number.result (subst (λ i. i < length c.args.value_types.now) (sym c.number.ensures) c.requires.id))
