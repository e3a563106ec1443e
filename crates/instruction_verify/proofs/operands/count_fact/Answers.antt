use Rattle.std.proofs.Common.{sym, ap, ◌∙◌, option_to_list}
use Rattle.std.specs.Option.{option_map}
use Rattle.module_arena.specs.View.{module_of}
use Rattle.instruction_verify.specs.ArenaOperands.{operand_in, operands_fact}
use Rattle.instruction_verify.proofs.OperandsKnown.{one_fact}
use Rattle.instruction_verify.proofs.operands.count_fact.Goals as goal

pub returns-in-Some : goal.returns-in-Some
returns-in-Some c values blocks =
    let a = c.args.judge.now in
    c.value_fact.ensures values blocks
    ∙ one_fact (module_of a) (operand_in a values blocks c.in-Some.operand)
    ∙ ap (λ o. operands_fact (module_of a) (option_to_list (option_map (operand_in a values blocks) o))) (sym c.in-Some.is)
