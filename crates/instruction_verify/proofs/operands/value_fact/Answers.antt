use Rattle.std.proofs.Common.{sym, ap, ◌∙◌}
use Rattle.type_table.specs.Types.{Types, tree, structs}
use Rattle.module_arena.specs.TypeTests.{is_passable}
use Rattle.module_arena.specs.View.{module_of}
use Rattle.instruction_verify.specs.ArenaOperands.{operand_fact, operand_in}
use Rattle.instruction_verify.proofs.OperandsKnown.{local_fact, known_fact}
use Rattle.instruction_verify.proofs.operands.value_fact.Goals as goal

pub returns-in-Local : goal.returns-in-Local
returns-in-Local c values blocks =
    let a = c.args.judge.now in
    local_fact a values blocks c.args.ty c.in-Local.field-0 c.is_passable-passable.result (c.is_passable-passable.ensures ∙ ap (λ (u : Types). is_passable (structs u) (tree u c.args.ty)) c.types.ensures)
    ∙ ap (λ v. operand_fact (module_of a) (operand_in a values blocks (record { ty = c.args.ty; value = v }))) (sym c.in-Local.is)

pub returns-in-Known : goal.returns-in-Known
returns-in-Known c values blocks =
    let a = c.args.judge.now in
    let t = tree a.table c.args.ty in
    known_fact a values blocks c.args.ty c.in-Known.id c.takes_no_intrinsic.result c.is_passable-passable.result c.types_suit.result c.fits.result
    (c.takes_no_intrinsic.ensures t) (c.is_passable-passable.ensures ∙ ap (λ (u : Types). is_passable (structs u) (tree u c.args.ty)) c.types.ensures) (c.types_suit.ensures t) c.fits.ensures
    ∙ ap (λ v. operand_fact (module_of a) (operand_in a values blocks (record { ty = c.args.ty; value = v }))) (sym c.in-Known.is)
