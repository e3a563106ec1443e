use Rattle.std.proofs.Common.{sym, subst}
use Rattle.ir_phrases.specs.declared.instructions.operation.Operation.{Operation}
use Rattle.ir_phrases.specs.declared.instructions.operation.Operation.TheVariants as op
use Rattle.ir_phrases.specs.declared.instructions.operation.Phi.{Phi}
use Rattle.ir_phrases.specs.Instructions.View.{operation_view}
use Rattle.ir_resolve.specs.InstructionBuild.Made.{TakesOperation}
use Rattle.ir_resolve.proofs.instruction_build.operations.build_operation.Goals as goal

pub build_phi-requires-clause-can : goal.build_phi-requires-clause-can
build_phi-requires-clause-can c =
    let Takes = λ (x : Operation). TakesOperation c.args.builder.now.arena c.args.locals.now (operation_view x) in
    let can = subst Takes c.in-Phi.is c.requires.can in
    subst (λ (p : Phi). Takes (op.Phi (record c.in-Phi.phi { value = p }))) (sym c.deref-in-Phi.ensures) can
