use Rattle.std.proofs.Common.{ℕ, Option, None, subst}
use Rattle.ir_phrases.specs.Constants.View.{typed_value_view}
use Rattle.module_arena.specs.declared.instruction.Inst.TheVariants as inst
use Rattle.module_arena.specs.Module as m
use Rattle.name_rules.specs.Written.{operand_in}
use Rattle.item_build.proofs.OnTypes.Growing.{grows_on}
use Rattle.ir_resolve.specs.InstructionBuild.Parts.{value_names, block_names}
use Rattle.ir_resolve.proofs.OnInstructionBuild.Standing.{operand_stays}
use Rattle.ir_resolve.proofs.OnInstructionBuild.Taking.{takes_operand}
use Rattle.ir_resolve.specs.InstructionBuild.Made.{Makes}
use Rattle.ir_resolve.proofs.OnInstructionBuild.Assembled.{makes_store}
use Rattle.ir_resolve.proofs.instruction_build.places.build_store.Goals as goal

pub build_operand-requires-2-clause-can : goal.build_operand-requires-2-clause-can
build_operand-requires-2-clause-can c = takes_operand _ _ c.in_ok-stored.ensures.grows c.args.locals.now (typed_value_view c.args.store.now.address) c.requires.can.1

pub returns-clause-grows : goal.returns-clause-grows
returns-clause-grows c = grows_on _ _ _ c.in_ok-stored.ensures.grows c.in_ok-address.ensures.grows

pub returns-clause-is : goal.returns-clause-is
returns-clause-is c =
    let values = value_names c.args.locals.now in
    let blocks = block_names c.args.locals.now in
    let a = c.build_operand-2.new.builder.arena in
    let x = operand_in (typed_value_view c.args.store.now.value) in
    let y = operand_in (typed_value_view c.args.store.now.address) in
    let made = makes_store values blocks a c.args.flags c.in_ok-stored.stored x c.in_ok-address.address y c.alignment_of-alignment.result (operand_stays values blocks _ _ c.in_ok-address.ensures.grows _ _ c.in_ok-stored.ensures.is) c.in_ok-address.ensures.is in
    subst (λ (n : Option ℕ). Makes values blocks a None (inst.Store c.args.flags c.in_ok-stored.stored c.in_ok-address.address c.alignment_of-alignment.result) (m.Store c.args.flags x y n)) c.alignment_of-alignment.ensures made
