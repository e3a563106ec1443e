use Rattle.std.proofs.Common.{subst, All, List, [], ◌∷◌, map, sym, ap, ◌∙◌}
use Rattle.module_arena.specs.Operations.{operands}
use Rattle.module_arena.specs.View.{module_of}
use Rattle.module_arena.specs.declared.instruction.Call.{Call}
use Rattle.module_arena.specs.declared.instruction.Choice.{Choice}
use Rattle.module_arena.specs.declared.instruction.Insertion.{Insertion}
use Rattle.module_arena.specs.declared.instruction.Operand.{Operand}
use Rattle.module_arena.specs.declared.instruction.Incoming.{Incoming}
use Rattle.instruction_verify.specs.ArenaOperands.{HasConstant, HasOperand, both_operand_facts, instruction_in, operand_in, operands_fact, phi_operand_in}
use Rattle.std.proofs.lemmas.List.Elements.{All-tail}
use Rattle.module_arena.specs.Mentions.{bare_values_of, operands_of}
use Rattle.instruction_verify.proofs.CasesTold.{incoming_listed, values_known}
use Rattle.instruction_verify.proofs.OperandsKnown.{joined_facts}
use Rattle.instruction_verify.proofs.operands.instruction_fact.Goals as goal

pub returns-in-Binary : goal.returns-in-Binary
returns-in-Binary c values blocks =
    let a = c.args.judge.now in
    c.pair_fact.ensures values blocks
    ∙ ap (λ i. operands_fact (module_of a) (operands (instruction_in a values blocks i).operation)) (sym c.in-Binary.is)

pub returns-in-Compare : goal.returns-in-Compare
returns-in-Compare c values blocks =
    let a = c.args.judge.now in
    c.pair_fact-in-Compare.ensures values blocks
    ∙ ap (λ i. operands_fact (module_of a) (operands (instruction_in a values blocks i).operation)) (sym c.in-Compare.is)

pub returns-in-Convert : goal.returns-in-Convert
returns-in-Convert c values blocks =
    let a = c.args.judge.now in
    c.operands_fact.ensures values blocks
    ∙ ap (λ (os : List Operand). operands_fact (module_of a) (map (operand_in a values blocks) os)) c.from_ref.ensures.value
    ∙ ap (λ i. operands_fact (module_of a) (operands (instruction_in a values blocks i).operation)) (sym c.in-Convert.is)

pub returns-in-Freeze : goal.returns-in-Freeze
returns-in-Freeze c values blocks =
    let a = c.args.judge.now in
    c.operands_fact-in-Freeze.ensures values blocks
    ∙ ap (λ (os : List Operand). operands_fact (module_of a) (map (operand_in a values blocks) os)) c.from_ref-in-Freeze.ensures.value
    ∙ ap (λ i. operands_fact (module_of a) (operands (instruction_in a values blocks i).operation)) (sym c.in-Freeze.is)

pub returns-in-Load : goal.returns-in-Load
returns-in-Load c values blocks =
    let a = c.args.judge.now in
    c.operands_fact-in-Load.ensures values blocks
    ∙ ap (λ (os : List Operand). operands_fact (module_of a) (map (operand_in a values blocks) os)) c.from_ref-in-Load.ensures.value
    ∙ ap (λ i. operands_fact (module_of a) (operands (instruction_in a values blocks i).operation)) (sym c.in-Load.is)

pub returns-in-ExtractValue : goal.returns-in-ExtractValue
returns-in-ExtractValue c values blocks =
    let a = c.args.judge.now in
    c.operands_fact-in-ExtractValue.ensures values blocks
    ∙ ap (λ (os : List Operand). operands_fact (module_of a) (map (operand_in a values blocks) os)) c.from_ref-in-ExtractValue.ensures.value
    ∙ ap (λ i. operands_fact (module_of a) (operands (instruction_in a values blocks i).operation)) (sym c.in-ExtractValue.is)

pub returns-in-Select : goal.returns-in-Select
returns-in-Select c values blocks =
    let a = c.args.judge.now in
    c.operands_fact-in-Select.ensures values blocks
    ∙ ap (λ (k : Choice). operands_fact (module_of a) (map (operand_in a values blocks) (k.condition ∷ k.first ∷ k.second ∷ []))) c.get-choice.ensures
    ∙ ap (λ i. operands_fact (module_of a) (operands (instruction_in a values blocks i).operation)) (sym c.in-Select.is)

pub returns-in-InsertValue : goal.returns-in-InsertValue
returns-in-InsertValue c values blocks =
    let a = c.args.judge.now in
    c.operands_fact-in-InsertValue.ensures values blocks
    ∙ ap (λ (k : Insertion). operands_fact (module_of a) (map (operand_in a values blocks) (k.aggregate ∷ k.part ∷ []))) c.get-insertion.ensures
    ∙ ap (λ i. operands_fact (module_of a) (operands (instruction_in a values blocks i).operation)) (sym c.in-InsertValue.is)

pub returns-in-Store : goal.returns-in-Store
returns-in-Store c values blocks =
    let a = c.args.judge.now in
    c.operands_fact-in-Store.ensures values blocks
    ∙ ap (λ i. operands_fact (module_of a) (operands (instruction_in a values blocks i).operation)) (sym c.in-Store.is)

pub returns-in-Alloca : goal.returns-in-Alloca
returns-in-Alloca c values blocks =
    let a = c.args.judge.now in
    c.count_fact.ensures values blocks
    ∙ ap (λ i. operands_fact (module_of a) (operands (instruction_in a values blocks i).operation)) (sym c.in-Alloca.is)

pub returns-in-Call : goal.returns-in-Call
returns-in-Call c values blocks =
    let a = c.args.judge.now in
    c.operands_fact-in-Call.ensures values blocks
    ∙ ap (λ (os : List Operand). operands_fact (module_of a) (map (operand_in a values blocks) os)) (c.as_slice-in-Call.ensures ∙ ap (λ (k : Call). k.arguments) c.get.ensures)
    ∙ ap (λ i. operands_fact (module_of a) (operands (instruction_in a values blocks i).operation)) (sym c.in-Call.is)

pub returns-in-GetElementPtr : goal.returns-in-GetElementPtr
returns-in-GetElementPtr c values blocks =
    let a = c.args.judge.now in
    let m = module_of a in
    let f = operand_in a values blocks in
    let base = c.operands_fact-in-GetElementPtr.ensures values blocks ∙ ap (λ (os : List Operand). operands_fact m (map f os)) c.from_ref-in-GetElementPtr.ensures.value in
    let others = c.operands_fact-others.ensures values blocks ∙ ap (λ (os : List Operand). operands_fact m (map f os)) c.as_slice-in-GetElementPtr.ensures in
    c.and.ensures
    ∙ (λ j. both_operand_facts (base j) (others j))
    ∙ joined_facts m (f c.in-GetElementPtr.base ∷ []) (map f c.in-GetElementPtr.indices)
    ∙ ap (λ i. operands_fact m (operands (instruction_in a values blocks i).operation)) (sym c.in-GetElementPtr.is)

pub incoming_fact-requires-clause-values : goal.incoming_fact-requires-clause-values
incoming_fact-requires-clause-values c =
    let a = c.args.judge.now in
    subst (λ (is : List Incoming). All (λ (i : Incoming). HasConstant a i.value) is) (sym c.as_slice.ensures)
    (values_known a c.in-Phi.incoming (subst (λ i. All (HasConstant a) (bare_values_of i)) c.in-Phi.is c.requires.values_known))

pub operands_fact-others-requires : goal.operands_fact-others-requires
operands_fact-others-requires c =
    let a = c.args.judge.now in
    subst (λ (os : List Operand). All (HasOperand a) os) (sym c.as_slice-in-GetElementPtr.ensures)
    (All-tail (HasOperand a) c.in-GetElementPtr.base c.in-GetElementPtr.indices (subst (λ i. All (HasOperand a) (operands_of i)) c.in-GetElementPtr.is c.requires.operands_known))

pub returns-in-Phi : goal.returns-in-Phi
returns-in-Phi c values blocks =
    let a = c.args.judge.now in
    let m = module_of a in
    c.incoming_fact.ensures values blocks
    ∙ ap (λ (is : List Incoming). operands_fact m (map (phi_operand_in a values blocks c.in-Phi.ty) is)) c.as_slice.ensures
    ∙ ap (operands_fact m) (incoming_listed a values blocks c.in-Phi.ty c.in-Phi.incoming)
    ∙ ap (λ i. operands_fact m (operands (instruction_in a values blocks i).operation)) (sym c.in-Phi.is)
