use Rattle.std.proofs.Common.{List, map, length, drop, All, sym, ap, subst, ◌∙◌, arith}
use Rattle.std.specs.List.{sum_by}
use Rattle.std.proofs.lemmas.List.{length-map}
use Rattle.ir_phrases.specs.Instructions.View.{block_view}
use Rattle.ir_phrases.specs.declared.instructions.block.WrittenBlock.{WrittenBlock}
use Rattle.ir_syntax.specs.View.{parameter_view}
use Rattle.type_table.specs.Types.{structs}
use Rattle.module_arena.specs.declared.entry.Body as the_body
use Rattle.module_arena.specs.Known.{upto, KnowsBody}
use Rattle.module_arena.specs.Module.{LocalName}
use Rattle.item_build.specs.Types.Holding.{entries}
use Rattle.item_build.specs.Buildable.Bodies.{CanBlock, values_of, labels_of}
use Rattle.ir_resolve.specs.InstructionBuild.Named.{called_of}
use Rattle.ir_resolve.specs.Built.{block_results_count, blocks_built, AreBlocks}
use Rattle.ir_resolve.proofs.Partial.{all_viewed}
use Rattle.ir_resolve.proofs.WholeBody.{values_counted, labels_counted, few_results, few_labels, body_is, body_known}
use Rattle.ir_resolve.proofs.body.build_body.Goals as goal

pub build_blocks-requires : goal.build_blocks-requires
build_blocks-requires c =
    let a = c.args.builder.now.arena in
    let ps = map parameter_view c.args.parameters.now in
    let bs = map block_view c.args.blocks.now in
    let locals = c.gather.new.locals in
    let values = c.in_ok-gather.ensures.values in
    let labels = c.in_ok-gather.ensures.labels in
    let each = all_viewed (CanBlock (structs a.table) (entries a) (values_of ps bs) (labels_of ps bs)) block_view c.args.blocks.now c.requires.each in
    let many = values_counted ps bs locals.values.names.items values in
    let long = length-map c.args.parameters.now parameter_view in
    let named = labels_counted ps bs locals.blocks.names.items labels in
    let blocks = length-map c.args.blocks.now block_view in
    let few = c.requires.few in
    let less = few_results ps bs few in
    let less_blocks = few_labels ps bs few in
    let first = c.new-first.ensures in
    record {
      can = subst (λ (vs : List LocalName). All (λ (b : WrittenBlock). CanBlock (structs a.table) (entries a) vs (called_of locals.blocks.names.items) (block_view b)) c.args.blocks.now) (sym values)
          (subst (λ (ls : List LocalName). All (λ (b : WrittenBlock). CanBlock (structs a.table) (entries a) (values_of ps bs) ls (block_view b)) c.args.blocks.now) (sym labels) each);
      few_values = omega (arith, many, less);
      few_blocks = omega (arith, named, less_blocks);
      there = omega (arith, named, blocks);
      few = omega (arith, few, first, long);
    }

pub names_from-requires : goal.names_from-requires
names_from-requires c =
    let ps = map parameter_view c.args.parameters.now in
    let bs = map block_view c.args.blocks.now in
    let many = values_counted ps bs c.gather.new.locals.values.names.items c.in_ok-gather.ensures.values in
    let long = length-map c.args.parameters.now parameter_view in
    omega (arith, many, long)

pub returns : goal.returns
returns c =
    let a = c.build_blocks.new.builder.arena in
    let ps = map parameter_view c.args.parameters.now in
    let bs = map block_view c.args.blocks.now in
    let locals = c.gather.new.locals in
    let long = length-map c.args.parameters.now parameter_view in
    let first = c.new-first.ensures ∙ sym long in
    let body : the_body.Body = record { blocks = c.in_ok-blocks.blocks; results = c.in_ok-results.results } in
    let built = c.in_ok-blocks.ensures in
    let are = subst (λ n. AreBlocks (called_of locals.values.names.items) (called_of locals.blocks.names.items) a body.blocks (blocks_built (called_of locals.values.names.items) (called_of locals.blocks.names.items) 0 n bs)) first built.are in
    let results = c.in_ok-results.ensures ∙ ap (λ n. drop n locals.values.names.items) (sym long) in
    let in_order = built.in_order ∙ ap (λ n. upto n (sum_by block_results_count bs)) first in
    let values = locals.values.names.items in
    let labels = locals.blocks.names.items in
    let called = c.in_ok-gather.ensures.values in
    let named = c.in_ok-gather.ensures.labels in
    record {
      grows = built.grows;
      known = subst (λ n. KnowsBody (length a.table.types) (length a.constants) n body) long (body_known ps bs a values labels called named body are results c.requires.few in_order);
      blocks = body_is ps bs a values labels called named body are results;
    }
