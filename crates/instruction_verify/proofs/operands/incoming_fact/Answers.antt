use Rattle.std.proofs.Common.{◌∙◌, ap, arith, map}
use Rattle.std.proofs.lemmas.List.{take_all}
use Rattle.module_arena.specs.View.{module_of}
use Rattle.instruction_verify.specs.ArenaOperands.{both_operand_facts, operands_fact, phi_operand_in}
use Rattle.instruction_verify.proofs.OperandsKnown.{next_fact}
use Rattle.instruction_verify.proofs.operands.incoming_fact.Goals as goal

pub values-preserved : goal.values-preserved
values-preserved c values blocks =
    let a = c.args.judge.now in
    c.and-all.ensures
    ∙ (λ j. both_operand_facts (c.values.invariant values blocks j) (c.value_fact.ensures values blocks j))
    ∙ next_fact (module_of a) (phi_operand_in a values blocks c.args.ty) c.args.incoming.now c.values.entry-index c.entry-item.result (omega arith) c.entry-item.is

pub returns : goal.returns
returns c values blocks =
    let a = c.args.judge.now in
    c.values.invariant values blocks
    ∙ ap (λ xs. operands_fact (module_of a) (map (phi_operand_in a values blocks c.args.ty) xs)) (take_all c.values.entry-index c.args.incoming.now (omega arith))
