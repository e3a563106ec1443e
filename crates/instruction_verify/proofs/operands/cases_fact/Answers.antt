use Rattle.std.proofs.Common.{◌∙◌, ap, arith, map}
use Rattle.std.proofs.lemmas.List.{take_all}
use Rattle.module_arena.specs.View.{module_of}
use Rattle.instruction_verify.specs.ArenaOperands.{both_operand_facts, operands_fact, case_operand_in}
use Rattle.instruction_verify.proofs.OperandsKnown.{next_fact}
use Rattle.instruction_verify.proofs.operands.cases_fact.Goals as goal

pub cases-preserved : goal.cases-preserved
cases-preserved c values blocks =
    let a = c.args.judge.now in
    c.and-all.ensures
    ∙ (λ j. both_operand_facts (c.cases.invariant values blocks j) (c.value_fact.ensures values blocks j))
    ∙ next_fact (module_of a) (case_operand_in a values blocks) c.args.cases.now c.cases.case-index c.case-item.result (omega arith) c.case-item.is

pub returns : goal.returns
returns c values blocks =
    let a = c.args.judge.now in
    c.cases.invariant values blocks
    ∙ ap (λ xs. operands_fact (module_of a) (map (case_operand_in a values blocks) xs)) (take_all c.cases.case-index c.args.cases.now (omega arith))
