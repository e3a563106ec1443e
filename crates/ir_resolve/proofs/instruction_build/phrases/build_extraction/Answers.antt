use Rattle.std.proofs.Common.{ℕ, List, Some, map, subst, ap, ◌∙◌}
use Rattle.module_arena.specs.declared.instruction.Inst.TheVariants as inst
use Rattle.module_arena.specs.Module as m
use Rattle.ir_phrases.specs.Constants.View.{typed_value_view}
use Rattle.name_rules.specs.Written.{natural, operand_in}
use Rattle.ir_resolve.specs.InstructionBuild.Parts.{value_names, block_names}
use Rattle.ir_resolve.specs.InstructionBuild.Made.{Makes}
use Rattle.ir_resolve.proofs.OnInstructionBuild.Assembled.{makes_extraction}
use Rattle.ir_resolve.proofs.instruction_build.phrases.build_extraction.Goals as goal

pub returns-clause-is : goal.returns-clause-is
returns-clause-is c =
    let values = value_names c.args.locals.now in
    let blocks = block_names c.args.locals.now in
    let a = c.build_operand.new.builder.arena in
    let whole = c.in_ok-indices.ensures ∙ ap (map natural) c.deref.ensures.value in
    subst (λ (ns : List ℕ). Makes values blocks a (Some c.args.next) (inst.ExtractValue c.args.next c.in_ok-aggregate.aggregate c.in_ok-indices.indices) (m.ExtractValue (operand_in (typed_value_view c.args.extraction.now.value)) ns)) whole
    (makes_extraction values blocks a c.args.next c.in_ok-aggregate.aggregate _ c.in_ok-indices.indices c.in_ok-aggregate.ensures.is)
