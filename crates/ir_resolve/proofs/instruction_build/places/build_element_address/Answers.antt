use Rattle.std.proofs.Common.{List, All, Some, map, sym, subst, ◌∙◌}
use Rattle.std.proofs.lemmas.List.Elements.{All-head, All-tail}
use Rattle.ir_phrases.specs.declared.constants.value.TypedValue.{TypedValue}
use Rattle.ir_phrases.specs.Constants.View.{type_view, typed_value_view}
use Rattle.module_arena.specs.declared.instruction.Inst.TheVariants as inst
use Rattle.name_rules.specs.Bodies.{element_address_in}
use Rattle.name_rules.specs.Written.{type_in}
use Rattle.item_build.proofs.OnTypes.Growing.{grows_on}
use Rattle.ir_resolve.specs.InstructionBuild.Parts.{value_names, block_names, TakesOperand}
use Rattle.ir_resolve.proofs.OnInstructionBuild.Standing.{operand_stays}
use Rattle.ir_resolve.proofs.OnInstructionBuild.Taking.{takes_operand, takes_operands}
use Rattle.ir_resolve.specs.InstructionBuild.Made.{Makes}
use Rattle.ir_resolve.proofs.OnInstructionBuild.Assembled.{makes_element_address}
use Rattle.ir_resolve.proofs.instruction_build.places.build_element_address.Goals as goal

pub build_operand-requires-clause-can : goal.build_operand-requires-clause-can
build_operand-requires-clause-can c =
    let P = TakesOperand c.args.builder.now.arena c.args.locals.now in
    let split = sym c.deref.ensures.value ∙ c.in-Some.ensures.cases.0 in
    let all = subst (λ (ws : List TypedValue). All P (map typed_value_view ws)) split c.requires.can.2 in
    takes_operand _ _ c.in_ok-source.ensures.grows c.args.locals.now (typed_value_view c.in-Some.first.now) (All-head P (typed_value_view c.in-Some.first.now) (map typed_value_view c.in-Some.others.now) all)

pub build_operands-requires-clause-can : goal.build_operands-requires-clause-can
build_operands-requires-clause-can c =
    let P = TakesOperand c.args.builder.now.arena c.args.locals.now in
    let split = sym c.deref.ensures.value ∙ c.in-Some.ensures.cases.0 in
    let all = subst (λ (ws : List TypedValue). All P (map typed_value_view ws)) split c.requires.can.2 in
    takes_operands _ _ (grows_on _ _ _ c.in_ok-source.ensures.grows c.in_ok-base.ensures.grows) c.args.locals.now (map typed_value_view c.in-Some.others.now)
    (All-tail P (typed_value_view c.in-Some.first.now) (map typed_value_view c.in-Some.others.now) all)

pub returns-clause-grows : goal.returns-clause-grows
returns-clause-grows c = grows_on _ _ _ (grows_on _ _ _ c.in_ok-source.ensures.grows c.in_ok-base.ensures.grows) c.in_ok-indices.ensures.grows

pub returns-clause-is : goal.returns-clause-is
returns-clause-is c =
    let values = value_names c.args.locals.now in
    let blocks = block_names c.args.locals.now in
    let a = c.build_operands.new.builder.arena in
    let source = type_view c.args.address.now.source in
    let both = grows_on _ _ _ c.in_ok-base.ensures.grows c.in_ok-indices.ensures.grows in
    let split = sym c.deref.ensures.value ∙ c.in-Some.ensures.cases.0 in
    let made = makes_element_address values blocks a c.args.next c.args.flags c.in_ok-source.source (type_in source) c.in_ok-base.base _ c.in_ok-indices.indices _
    (both.types _ _ c.in_ok-source.ensures.is) (operand_stays values blocks _ _ c.in_ok-indices.ensures.grows _ _ c.in_ok-base.ensures.is) c.in_ok-indices.ensures.are in
    subst (λ (ws : List TypedValue). Makes values blocks a (Some c.args.next) (inst.GetElementPtr c.args.flags c.args.next c.in_ok-source.source c.in_ok-base.base c.in_ok-indices.indices) (element_address_in c.args.flags source (map typed_value_view ws))) (sym split) made
