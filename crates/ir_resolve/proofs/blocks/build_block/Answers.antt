use Rattle.std.proofs.Common.{map, get_or, All, sym, ap, subst, ◌∙◌}
use Rattle.std.proofs.lemmas.List.{get_or-map}
use Rattle.ir_phrases.specs.declared.instructions.block.Instruction.{Instruction}
use Rattle.ir_phrases.specs.Instructions.View.{instruction_view, ending_view, block_view}
use Rattle.type_table.specs.Types.{structs}
use Rattle.module_arena.specs.Module.{Numbered}
use Rattle.module_arena.specs.View.{local_view}
use Rattle.item_build.specs.Types.Holding.{entries}
use Rattle.item_build.proofs.OnTypes.Growing.{grows_on}
use Rattle.item_build.specs.Buildable.Bodies.{CanInstruction}
use Rattle.ir_resolve.specs.InstructionBuild.Named.{called_of}
use Rattle.ir_resolve.specs.Built.{instructions_built, AreInsts}
use Rattle.ir_resolve.proofs.Partial.{all_viewed}
use Rattle.ir_resolve.proofs.Staying.{insts_stay, ending_still, block_is}
use Rattle.ir_resolve.proofs.blocks.build_block.Goals as goal

pub build_instructions-requires-clause-can : goal.build_instructions-requires-clause-can
build_instructions-requires-clause-can c =
    let a = c.args.builder.now.arena in
    let values = called_of c.args.locals.now.values.names.items in
    let labels = called_of c.args.locals.now.blocks.names.items in
    subst (All (λ (i : Instruction). CanInstruction (structs a.table) (entries a) values labels (instruction_view i))) (sym c.deref.ensures.value)
    (all_viewed (CanInstruction (structs a.table) (entries a) values labels) instruction_view c.args.written.now.instructions.items c.requires.can.0)

pub build_ending-requires-clause-can : goal.build_ending-requires-clause-can
build_ending-requires-clause-can c =
    let values = called_of c.args.locals.now.values.names.items in
    let labels = called_of c.args.locals.now.blocks.names.items in
    ending_still _ _ c.in_ok-instructions.ensures.grows values labels (ending_view c.args.written.now.ending) c.requires.can.1

pub returns-clause-grows : goal.returns-clause-grows
returns-clause-grows c = grows_on _ _ _ c.in_ok-instructions.ensures.grows c.in_ok-end.ensures.grows

pub returns-clause-is : goal.returns-clause-is
returns-clause-is c =
    let values = called_of c.args.locals.now.values.names.items in
    let names = c.args.locals.now.blocks.names.items in
    let labels = called_of names in
    let name = ap local_view (c.in_ok-name.ensures ∙ c.index.ensures) ∙ ap (λ k. local_view (get_or names k c.index.result.now)) c.number.ensures ∙ sym (get_or-map local_view names c.args.id c.index.result.now (Numbered 0) c.requires.there) in
    let are = subst (λ xs. AreInsts values labels c.build_instructions.new.builder.arena c.in_ok-instructions.instructions (instructions_built values c.args.first (map instruction_view xs))) c.deref.ensures.value c.in_ok-instructions.ensures.are in
    block_is c.build_ending.new.builder.arena values labels _ c.args.id c.args.first (block_view c.args.written.now) name
    (insts_stay _ _ c.in_ok-end.ensures.grows values labels c.in_ok-instructions.instructions (instructions_built values c.args.first (map instruction_view c.args.written.now.instructions.items)) are) c.in_ok-end.ensures.is
