use Rattle.std.proofs.Common.{ℕ, List, Some, map, sym, subst, ap, ◌∙◌}
use Rattle.ir_phrases.specs.Constants.View.{typed_value_view}
use Rattle.module_arena.specs.declared.instruction.Insertion.{Insertion}
use Rattle.module_arena.specs.declared.instruction.Inst.TheVariants as inst
use Rattle.module_arena.specs.Module as m
use Rattle.name_rules.specs.Written.{natural, operand_in}
use Rattle.item_build.proofs.OnTypes.Growing.{grows_on}
use Rattle.ir_resolve.specs.InstructionBuild.Parts.{value_names, block_names}
use Rattle.ir_resolve.proofs.OnInstructionBuild.Standing.{operand_stays}
use Rattle.ir_resolve.proofs.OnInstructionBuild.Taking.{takes_operand}
use Rattle.ir_resolve.specs.InstructionBuild.Made.{Makes}
use Rattle.ir_resolve.proofs.OnInstructionBuild.Assembled.{makes_insertion}
use Rattle.ir_resolve.proofs.instruction_build.phrases.build_insertion.Goals as goal

pub build_operand-requires-2-clause-can : goal.build_operand-requires-2-clause-can
build_operand-requires-2-clause-can c = takes_operand _ _ c.in_ok-aggregate.ensures.grows c.args.locals.now (typed_value_view c.args.insertion.now.part) c.requires.can.1

pub returns-clause-grows : goal.returns-clause-grows
returns-clause-grows c = grows_on _ _ _ c.in_ok-aggregate.ensures.grows c.in_ok-part.ensures.grows

pub returns-clause-is : goal.returns-clause-is
returns-clause-is c =
    let values = value_names c.args.locals.now in
    let blocks = block_names c.args.locals.now in
    let a = c.build_operand-2.new.builder.arena in
    let x = operand_in (typed_value_view c.args.insertion.now.value) in
    let y = operand_in (typed_value_view c.args.insertion.now.part) in
    let parts : Insertion = record { aggregate = c.in_ok-aggregate.aggregate; part = c.in_ok-part.part; indices = c.in_ok-indices.indices } in
    let made = makes_insertion values blocks a c.args.next parts x y (operand_stays values blocks _ _ c.in_ok-part.ensures.grows _ _ c.in_ok-aggregate.ensures.is) c.in_ok-part.ensures.is in
    let whole = c.in_ok-indices.ensures ∙ ap (map natural) c.deref.ensures.value in
    subst (λ (ns : List ℕ). Makes values blocks a (Some c.args.next) (inst.InsertValue c.args.next c.in_ok-parts.parts) (m.InsertValue x y ns)) whole
    (subst (λ (p : Insertion). Makes values blocks a (Some c.args.next) (inst.InsertValue c.args.next p) (m.InsertValue x y c.in_ok-indices.indices)) (sym c.in_ok-parts.ensures) made)
