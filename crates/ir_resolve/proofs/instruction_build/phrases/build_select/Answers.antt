use Rattle.std.proofs.Common.{Some, sym, subst}
use Rattle.ir_phrases.specs.Constants.View.{typed_value_view}
use Rattle.ir_phrases.specs.Instructions.Tree as tree
use Rattle.module_arena.specs.declared.instruction.Choice.{Choice}
use Rattle.module_arena.specs.declared.instruction.Inst.TheVariants as inst
use Rattle.name_rules.specs.Bodies.{operation_in}
use Rattle.item_build.proofs.OnTypes.Growing.{grows_on}
use Rattle.ir_resolve.specs.InstructionBuild.Parts.{value_names, block_names}
use Rattle.ir_resolve.proofs.OnInstructionBuild.Standing.{operand_stays}
use Rattle.ir_resolve.proofs.OnInstructionBuild.Taking.{takes_operand}
use Rattle.ir_resolve.specs.InstructionBuild.Made.{Makes}
use Rattle.ir_resolve.proofs.OnInstructionBuild.Assembled.{makes_select}
use Rattle.ir_resolve.proofs.instruction_build.phrases.build_select.Goals as goal

pub build_operand-requires-2-clause-can : goal.build_operand-requires-2-clause-can
build_operand-requires-2-clause-can c = takes_operand _ _ c.in_ok-condition.ensures.grows c.args.locals.now (typed_value_view c.args.choice.now.first) c.requires.can.1

pub build_operand-requires-3-clause-can : goal.build_operand-requires-3-clause-can
build_operand-requires-3-clause-can c =
    takes_operand _ _ (grows_on _ _ _ c.in_ok-condition.ensures.grows c.in_ok-first.ensures.grows) c.args.locals.now (typed_value_view c.args.choice.now.second) c.requires.can.2

pub returns-clause-grows : goal.returns-clause-grows
returns-clause-grows c = grows_on _ _ _ (grows_on _ _ _ c.in_ok-condition.ensures.grows c.in_ok-first.ensures.grows) c.in_ok-second.ensures.grows

pub returns-clause-is : goal.returns-clause-is
returns-clause-is c =
    let values = value_names c.args.locals.now in
    let blocks = block_names c.args.locals.now in
    let a = c.build_operand-3.new.builder.arena in
    let both = grows_on _ _ _ c.in_ok-first.ensures.grows c.in_ok-second.ensures.grows in
    let choice : Choice = record { condition = c.in_ok-condition.condition; first = c.in_ok-first.first; second = c.in_ok-second.second } in
    let made = makes_select values blocks a c.args.next choice _ _ _
    (operand_stays values blocks _ _ both _ _ c.in_ok-condition.ensures.is) (operand_stays values blocks _ _ c.in_ok-second.ensures.grows _ _ c.in_ok-first.ensures.is) c.in_ok-second.ensures.is in
    subst (λ (p : Choice). Makes values blocks a (Some c.args.next) (inst.Select c.args.next p) (operation_in (tree.Select (typed_value_view c.args.choice.now.condition) (typed_value_view c.args.choice.now.first) (typed_value_view c.args.choice.now.second)))) (sym c.in_ok-parts.ensures) made
