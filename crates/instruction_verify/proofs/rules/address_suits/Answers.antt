use Rattle.std.proofs.Common.{sym, ap, ◌∙◌}
use Rattle.type_table.specs.Types.{Types, tree}
use Rattle.module_arena.specs.TypeTests.{is_pointer}
use Rattle.module_arena.specs.ValueRules as rules
use Rattle.instruction_verify.proofs.NothingAsked.{count_in}
use Rattle.instruction_verify.specs.ArenaOperands.{instruction_in}
use Rattle.instruction_verify.proofs.NothingAsked.{no_address}
use Rattle.instruction_verify.proofs.rules.address_suits.Goals as goal

pub returns-in-Load : goal.returns-in-Load
returns-in-Load c a values blocks same =
    c.is_pointer.ensures ∙ ap (λ (u : Types). is_pointer (tree u c.in-Load.address.ty)) same
    ∙ ap (λ i. rules.address_suits (instruction_in a values blocks i).operation) (sym c.in-Load.is)

pub returns-in-Store : goal.returns-in-Store
returns-in-Store c a values blocks same =
    c.is_pointer-in-Store.ensures ∙ ap (λ (u : Types). is_pointer (tree u c.in-Store.address.ty)) same
    ∙ ap (λ i. rules.address_suits (instruction_in a values blocks i).operation) (sym c.in-Store.is)

pub returns-in-Alloca : goal.returns-in-Alloca
returns-in-Alloca c a values blocks same =
    c.count_suits.ensures ∙ count_in a values blocks c.args.types.now same c.in-Alloca.count
    ∙ ap (λ i. rules.address_suits (instruction_in a values blocks i).operation) (sym c.in-Alloca.is)

pub returns-in_default : goal.returns-in_default
returns-in_default c a values blocks same = no_address a values blocks c.args.instruction.now c.in_default.not-Load c.in_default.not-Store c.in_default.not-Alloca
