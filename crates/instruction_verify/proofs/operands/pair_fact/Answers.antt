use Rattle.std.proofs.Common.{[], ◌∷◌, ◌∙◌}
use Rattle.module_arena.specs.View.{module_of}
use Rattle.instruction_verify.specs.ArenaOperands.{both_operand_facts, operand_in}
use Rattle.instruction_verify.proofs.OperandsKnown.{joined_facts, one_fact}
use Rattle.instruction_verify.proofs.operands.pair_fact.Goals as goal

pub returns : goal.returns
returns c values blocks =
    let a = c.args.judge.now in
    let m = module_of a in
    let left = operand_in a values blocks c.args.left in
    let right = operand_in a values blocks (record { ty = c.args.left.ty; value = c.args.right }) in
    let first = c.value_fact.ensures values blocks ∙ one_fact m left in
    let second = c.value_fact-second.ensures values blocks ∙ one_fact m right in
    c.and.ensures ∙ (λ j. both_operand_facts (first j) (second j)) ∙ joined_facts m (left ∷ []) (right ∷ [])
