use Rattle.std.proofs.Common.{ℕ, Option, Some, subst}
use Rattle.ir_phrases.specs.Constants.View.{type_view, typed_value_view}
use Rattle.module_arena.specs.declared.instruction.Inst.TheVariants as inst
use Rattle.module_arena.specs.Module as m
use Rattle.name_rules.specs.Written.{type_in, operand_in}
use Rattle.item_build.proofs.OnTypes.Growing.{grows_on}
use Rattle.ir_resolve.specs.InstructionBuild.Parts.{value_names, block_names}
use Rattle.ir_resolve.proofs.OnInstructionBuild.Taking.{takes_operand}
use Rattle.ir_resolve.specs.InstructionBuild.Made.{Makes}
use Rattle.ir_resolve.proofs.OnInstructionBuild.Assembled.{makes_load}
use Rattle.ir_resolve.proofs.instruction_build.places.build_load.Goals as goal

pub build_operand-requires-clause-can : goal.build_operand-requires-clause-can
build_operand-requires-clause-can c = takes_operand _ _ c.in_ok-ty.ensures.grows c.args.locals.now (typed_value_view c.args.load.now.address) c.requires.can.1

pub returns-clause-grows : goal.returns-clause-grows
returns-clause-grows c = grows_on _ _ _ c.in_ok-ty.ensures.grows c.in_ok-address.ensures.grows

pub returns-clause-is : goal.returns-clause-is
returns-clause-is c =
    let values = value_names c.args.locals.now in
    let blocks = block_names c.args.locals.now in
    let a = c.build_operand.new.builder.arena in
    let t = type_in (type_view c.args.load.now.ty) in
    let e = operand_in (typed_value_view c.args.load.now.address) in
    let made = makes_load values blocks a c.args.next c.args.flags c.in_ok-ty.ty t c.in_ok-address.address e c.alignment_of-alignment.result (c.in_ok-address.ensures.grows.types _ _ c.in_ok-ty.ensures.is) c.in_ok-address.ensures.is in
    subst (λ (n : Option ℕ). Makes values blocks a (Some c.args.next) (inst.Load c.args.flags c.args.next c.in_ok-ty.ty c.in_ok-address.address c.alignment_of-alignment.result) (m.Load c.args.flags t e n)) c.alignment_of-alignment.ensures made
