use Rattle.std.proofs.Common.{sym, ap, ◌∙◌}
use Rattle.type_table.specs.Types.{Types, tree}
use Rattle.module_arena.specs.Constants.{is_cast_between}
use Rattle.module_arena.specs.ValueRules as rules
use Rattle.instruction_verify.specs.ArenaOperands.{instruction_in}
use Rattle.instruction_verify.proofs.NothingAsked.{no_cast}
use Rattle.instruction_verify.proofs.rules.cast_suits.Goals as goal

pub returns-in-Convert : goal.returns-in-Convert
returns-in-Convert c a values blocks same =
    c.is_cast_between.ensures ∙ ap (λ (u : Types). is_cast_between c.in-Convert.opcode (tree u c.in-Convert.operand.ty) (tree u c.in-Convert.to)) same
    ∙ ap (λ i. rules.cast_suits (instruction_in a values blocks i).operation) (sym c.in-Convert.is)

pub returns-in_default : goal.returns-in_default
returns-in_default c a values blocks same = no_cast a values blocks c.args.instruction.now c.in_default.not-Convert
