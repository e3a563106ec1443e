use Rattle.std.proofs.Common.{List, All, map, sym, subst}
use Rattle.ir_phrases.specs.declared.constants.value.TypedValue.{TypedValue}
use Rattle.ir_phrases.specs.Constants.View.{value_view, typed_value_view}
use Rattle.ir_phrases.specs.Instructions.Tree as tree
use Rattle.ir_phrases.specs.Instructions.View.{call_view}
use Rattle.module_arena.specs.declared.instruction.Call.{Call}
use Rattle.module_arena.specs.declared.instruction.Inst.TheVariants as inst
use Rattle.name_rules.specs.Bodies.{operation_in}
use Rattle.name_rules.specs.Written.{operand_in}
use Rattle.item_build.proofs.OnTypes.Growing.{grows_on}
use Rattle.ir_resolve.specs.InstructionBuild.Meant.{IsOperand}
use Rattle.ir_resolve.specs.InstructionBuild.Parts.{value_names, block_names, TakesOperand, Each}
use Rattle.ir_resolve.proofs.OnInstructionBuild.Standing.{value_stays, signature_stays}
use Rattle.ir_resolve.proofs.OnInstructionBuild.Taking.{takes_value, takes_operands, types_taken}
use Rattle.ir_resolve.specs.InstructionBuild.Made.{Makes}
use Rattle.ir_resolve.proofs.OnInstructionBuild.Assembled.{makes_call}
use Rattle.ir_resolve.proofs.instruction_build.places.build_call.Goals as goal

pub build_signature-requires-clause-arguments : goal.build_signature-requires-clause-arguments
build_signature-requires-clause-arguments c = types_taken c.args.builder.now.arena c.args.locals.now (map typed_value_view c.args.call.now.arguments.items) c.requires.can.3

pub build_callee-requires-clause-can : goal.build_callee-requires-clause-can
build_callee-requires-clause-can c = takes_value _ _ c.in_ok-signature.ensures.grows c.args.locals.now (value_view c.args.call.now.callee) c.requires.can.2

pub build_operands-requires-clause-can : goal.build_operands-requires-clause-can
build_operands-requires-clause-can c =
    subst (λ (ws : List TypedValue). All (TakesOperand c.build_callee.new.builder.arena c.args.locals.now) (map typed_value_view ws)) (sym c.deref.ensures.value)
    (takes_operands _ _ (grows_on _ _ _ c.in_ok-signature.ensures.grows c.in_ok-callee.ensures.grows) c.args.locals.now (map typed_value_view c.args.call.now.arguments.items) c.requires.can.3)

pub returns-clause-grows : goal.returns-clause-grows
returns-clause-grows c = grows_on _ _ _ (grows_on _ _ _ c.in_ok-signature.ensures.grows c.in_ok-callee.ensures.grows) c.in_ok-arguments.ensures.grows

pub returns-clause-is : goal.returns-clause-is
returns-clause-is c =
    let values = value_names c.args.locals.now in
    let blocks = block_names c.args.locals.now in
    let a = c.build_operands.new.builder.arena in
    let both = grows_on _ _ _ c.in_ok-callee.ensures.grows c.in_ok-arguments.ensures.grows in
    let are = subst (λ (ws : List TypedValue). Each (IsOperand values blocks a) c.in_ok-arguments.arguments (map operand_in (map typed_value_view ws))) c.deref.ensures.value c.in_ok-arguments.ensures.are in
    let call : Call = record { result = c.args.defined; signature = c.in_ok-signature.signature; callee = c.in_ok-callee.callee; arguments = c.in_ok-arguments.arguments } in
    let made = makes_call values blocks a call _ _ _ (signature_stays _ _ both _ _ c.in_ok-signature.ensures.is) (value_stays values blocks _ _ c.in_ok-arguments.ensures.grows _ _ c.in_ok-callee.ensures.is) are in
    subst (λ (p : Call). Makes values blocks a c.args.defined (inst.Call p) (operation_in (tree.Call (call_view c.args.call.now)))) (sym c.in_ok-parts.ensures) made
