use Rattle.std.proofs.Common.{List, All, map, sym, subst}
use Rattle.ir_phrases.specs.declared.instructions.block.WrittenCase.{WrittenCase}
use Rattle.ir_phrases.specs.Instructions.View.{case_view}
use Rattle.name_rules.specs.Bodies.{case_in}
use Rattle.item_build.proofs.OnTypes.Growing.{grows_on}
use Rattle.ir_resolve.specs.InstructionBuild.Parts.{value_names, block_names, TakesCase, Each, IsCase}
use Rattle.ir_resolve.proofs.OnInstructionBuild.Standing.{operand_stays}
use Rattle.ir_resolve.proofs.OnInstructionBuild.Taking.{takes_cases}
use Rattle.ir_resolve.proofs.OnInstructionBuild.Ended.{ends_switch}
use Rattle.ir_resolve.proofs.instruction_build.endings.build_switch.Goals as goal

pub build_cases-requires-clause-can : goal.build_cases-requires-clause-can
build_cases-requires-clause-can c =
    subst (λ (ws : List WrittenCase). All (TakesCase c.build_operand.new.builder.arena c.args.locals.now) (map case_view ws)) (sym c.deref.ensures.value)
    (takes_cases _ _ c.in_ok-operand.ensures.grows c.args.locals.now (map case_view c.args.switch.now.cases.items) c.requires.can.2)

pub returns-clause-grows : goal.returns-clause-grows
returns-clause-grows c = grows_on _ _ _ c.in_ok-operand.ensures.grows c.in_ok-cases.ensures.grows

pub returns-clause-is : goal.returns-clause-is
returns-clause-is c =
    let values = value_names c.args.locals.now in
    let blocks = block_names c.args.locals.now in
    let a = c.build_cases.new.builder.arena in
    let are = subst (λ (ws : List WrittenCase). Each (IsCase blocks a) c.in_ok-cases.cases (map case_in (map case_view ws))) c.deref.ensures.value c.in_ok-cases.ensures.are in
    ends_switch values blocks a c.in_ok-operand.operand _ c.find_block-otherwise.result _ c.in_ok-cases.cases _
    (operand_stays values blocks _ _ c.in_ok-cases.ensures.grows _ _ c.in_ok-operand.ensures.is) c.find_block-otherwise.ensures are
