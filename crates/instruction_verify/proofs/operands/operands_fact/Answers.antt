use Rattle.std.proofs.Common.{◌∙◌, ap, arith, map}
use Rattle.std.proofs.lemmas.List.{take_all}
use Rattle.module_arena.specs.View.{module_of}
use Rattle.instruction_verify.specs.ArenaOperands.{both_operand_facts, operands_fact, operand_in}
use Rattle.instruction_verify.proofs.OperandsKnown.{next_fact}
use Rattle.instruction_verify.proofs.operands.operands_fact.Goals as goal

pub operands-preserved : goal.operands-preserved
operands-preserved c values blocks =
    let a = c.args.judge.now in
    c.and-all.ensures
    ∙ (λ j. both_operand_facts (c.operands.invariant values blocks j) (c.value_fact.ensures values blocks j))
    ∙ next_fact (module_of a) (operand_in a values blocks) c.args.operands.now c.operands.operand-index c.operand-item.result (omega arith) c.operand-item.is

pub returns : goal.returns
returns c values blocks =
    let a = c.args.judge.now in
    c.operands.invariant values blocks
    ∙ ap (λ xs. operands_fact (module_of a) (map (operand_in a values blocks) xs)) (take_all c.operands.operand-index c.args.operands.now (omega arith))
