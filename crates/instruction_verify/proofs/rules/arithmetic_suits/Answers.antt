use Rattle.std.proofs.Common.{◌&&◌, ◌||◌, not, sym, ap, ◌∙◌}
use Rattle.type_table.specs.Types.{Types, tree}
use Rattle.ir_tables.specs.Flags.{has_flag}
use Rattle.ir_tables.specs.declared.flag.Flag.TheVariants.{Samesign}
use Rattle.module_arena.specs.Same.{same_type}
use Rattle.module_arena.specs.TypeTests.{is_integer, is_integer_of, is_pointer}
use Rattle.module_arena.specs.ValueRules as rules
use Rattle.module_arena.specs.declared.instruction.Choice.{Choice}
use Rattle.instruction_verify.specs.ArenaOperands.{instruction_in}
use Rattle.instruction_verify.proofs.NothingAsked.{no_arithmetic}
use Rattle.instruction_verify.proofs.rules.arithmetic_suits.Goals as goal

pub returns-in-Binary : goal.returns-in-Binary
returns-in-Binary c a values blocks same =
    c.is_integer.ensures ∙ ap (λ (u : Types). is_integer (tree u c.in-Binary.left.ty)) same
    ∙ ap (λ i. rules.arithmetic_suits (instruction_in a values blocks i).operation) (sym c.in-Binary.is)

pub returns-in-Compare : goal.returns-in-Compare
returns-in-Compare c a values blocks same =
    (λ j. c.is_integer-in-Compare.ensures j || (not (c.has.ensures j) && c.is_pointer-pointer.ensures j))
    ∙ ap (λ (u : Types). is_integer (tree u c.in-Compare.left.ty) || (not (has_flag c.in-Compare.flags Samesign) && is_pointer (tree u c.in-Compare.left.ty))) same
    ∙ ap (λ i. rules.arithmetic_suits (instruction_in a values blocks i).operation) (sym c.in-Compare.is)

pub returns-in-Select : goal.returns-in-Select
returns-in-Select c a values blocks same =
    (λ j. c.is_integer_of.ensures j && c.same_type-alike.ensures j)
    ∙ ap (λ (k : Choice). is_integer_of 1 (tree c.args.types.now k.condition.ty) && same_type (tree c.args.types.now k.first.ty) (tree c.args.types.now k.second.ty)) c.get-choice.ensures
    ∙ ap (λ (u : Types). is_integer_of 1 (tree u c.in-Select.choice.condition.ty) && same_type (tree u c.in-Select.choice.first.ty) (tree u c.in-Select.choice.second.ty)) same
    ∙ ap (λ i. rules.arithmetic_suits (instruction_in a values blocks i).operation) (sym c.in-Select.is)

pub returns-in_default : goal.returns-in_default
returns-in_default c a values blocks same = no_arithmetic a values blocks c.args.instruction.now c.in_default.not-Binary c.in_default.not-Compare c.in_default.not-Select
