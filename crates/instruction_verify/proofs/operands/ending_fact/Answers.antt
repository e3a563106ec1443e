use Rattle.std.proofs.Common.{List, [], ◌∷◌, All, map, sym, ap, ◌∙◌, subst}
use Rattle.std.proofs.lemmas.List.Elements.{All-tail}
use Rattle.module_arena.specs.Mentions.{end_operands_of}
use Rattle.module_arena.specs.Operations.{ending_operands}
use Rattle.module_arena.specs.View.{module_of}
use Rattle.module_arena.specs.declared.instruction.Case.{Case}
use Rattle.module_arena.specs.declared.instruction.Operand.{Operand}
use Rattle.instruction_verify.specs.ArenaOperands.{HasCase, HasOperand, both_operand_facts, case_operand_in, ending_in, operand_in, operands_fact}
use Rattle.instruction_verify.proofs.CasesTold.{cases_known, cases_listed}
use Rattle.instruction_verify.proofs.OperandsKnown.{joined_facts}
use Rattle.instruction_verify.proofs.operands.ending_fact.Goals as goal

pub cases_fact-others-requires : goal.cases_fact-others-requires
cases_fact-others-requires c =
    let a = c.args.judge.now in
    subst (λ (cs : List Case). All (HasCase a) cs) (sym c.as_slice.ensures)
    (cases_known a c.in-Switch.cases (All-tail (HasOperand a) c.in-Switch.value _ (subst (λ e. All (HasOperand a) (end_operands_of e)) c.in-Switch.is c.requires)))

pub returns-in-Return : goal.returns-in-Return
returns-in-Return c values blocks =
    let a = c.args.judge.now in
    c.operands_fact.ensures values blocks
    ∙ ap (λ (os : List Operand). operands_fact (module_of a) (map (operand_in a values blocks) os)) c.from_ref.ensures.value
    ∙ ap (λ e. operands_fact (module_of a) (ending_operands (ending_in a values blocks e))) (sym c.in-Return.is)

pub returns-in-Branch : goal.returns-in-Branch
returns-in-Branch c values blocks =
    let a = c.args.judge.now in
    c.operands_fact-in-Branch.ensures values blocks
    ∙ ap (λ (os : List Operand). operands_fact (module_of a) (map (operand_in a values blocks) os)) c.from_ref-in-Branch.ensures.value
    ∙ ap (λ e. operands_fact (module_of a) (ending_operands (ending_in a values blocks e))) (sym c.in-Branch.is)

pub returns-in-Switch : goal.returns-in-Switch
returns-in-Switch c values blocks =
    let a = c.args.judge.now in
    let m = module_of a in
    let first = c.operands_fact-in-Switch.ensures values blocks ∙ ap (λ (os : List Operand). operands_fact m (map (operand_in a values blocks) os)) c.from_ref-in-Switch.ensures.value in
    let others = c.cases_fact-others.ensures values blocks ∙ ap (λ (cs : List Case). operands_fact m (map (case_operand_in a values blocks) cs)) c.as_slice.ensures in
    c.and.ensures
    ∙ (λ j. both_operand_facts (first j) (others j))
    ∙ joined_facts m (operand_in a values blocks c.in-Switch.value ∷ []) (map (case_operand_in a values blocks) c.in-Switch.cases)
    ∙ ap (λ os. operands_fact m (operand_in a values blocks c.in-Switch.value ∷ os)) (cases_listed a values blocks c.in-Switch.cases)
    ∙ ap (λ e. operands_fact m (ending_operands (ending_in a values blocks e))) (sym c.in-Switch.is)
