use Rattle.std.proofs.Common.{sym, subst}
use Rattle.ir_phrases.specs.declared.instructions.block.WrittenEnding.{WrittenEnding}
use Rattle.ir_phrases.specs.declared.instructions.block.WrittenEnding.TheVariants as ending
use Rattle.ir_phrases.specs.declared.instructions.block.Switch.{Switch}
use Rattle.ir_phrases.specs.Instructions.View.{ending_view}
use Rattle.ir_resolve.specs.InstructionBuild.Made.{TakesEnding}
use Rattle.ir_resolve.proofs.instruction_build.build_ending.Goals as goal

pub build_switch-requires-clause-can : goal.build_switch-requires-clause-can
build_switch-requires-clause-can c =
    let Takes = λ (x : WrittenEnding). TakesEnding c.args.builder.now.arena c.args.locals.now (ending_view x) in
    let can = subst Takes c.in-Switch.is c.requires.can in
    subst (λ (s : Switch). Takes (ending.Switch (record c.in-Switch.switch { value = s }))) (sym c.deref-in-Switch.ensures) can
