use Rattle.std.proofs.Common.{List, All, length, sym, ap, ◌∙◌, subst}
use Rattle.std.specs.List.{list_all}
use Rattle.std.proofs.lemmas.Bool.{and_parts}
use Rattle.module_arena.specs.Known.{HasOperand}
use Rattle.module_arena.specs.declared.instruction.Operand.{Operand}
use Rattle.instruction_verify.specs.Last.ValuesById.{has_own_type}
use Rattle.instruction_verify.proofs.OnLast.LastHeld.{last_held}
use Rattle.instruction_verify.proofs.OnLast.Listed.{operands_known}
use Rattle.instruction_verify.proofs.last.passing.types_pass.Goals as goal

pub all_have-typed-requires-clause-known : goal.all_have-typed-requires-clause-known
all_have-typed-requires-clause-known c =
    let a = c.args.judge.now in
    let values = length c.args.value_types.now in
    subst (λ (os : List Operand). All (HasOperand (length a.table.types) (length a.constants) values) os) (sym c.requires.gathered) (operands_known a values c.args.instruction.now c.requires.known)

pub returns-clause-first : goal.returns-clause-first
returns-clause-first c values blocks function number e = c.operation_passes.ensures.first values blocks function number (and_parts _ _ e).0

pub returns-clause-last : goal.returns-clause-last
returns-clause-last c f values blocks number told e =
    let p = and_parts _ _ e in
    let listed = ap (λ (os : List Operand). list_all (has_own_type c.args.judge.now.table c.args.value_types.now) os) (sym c.requires.gathered) in
    last_held c.args.judge.now f values blocks c.args.value_types.now number c.args.instruction.now c.requires.known told (listed ∙ sym c.all_have-typed.ensures ∙ p.1)
    (c.operation_passes.ensures.types values blocks f.name number p.0)
    (c.operation_passes.ensures.calls f values blocks number told p.0)
