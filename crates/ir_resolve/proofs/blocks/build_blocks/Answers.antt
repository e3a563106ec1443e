use Rattle.std.proofs.Common.{◌≡◌, ◌+◌, ◌++◌, ◌∷◌, [], map, flat_map, take, length, refl, sym, ap, subst, ◌∙◌, arith}
use Rattle.std.specs.List.{sum_by}
use Rattle.std.proofs.lemmas.List.{length-map, length-take, take_all}
use Rattle.ir_phrases.specs.declared.instructions.block.WrittenBlock.{WrittenBlock}
use Rattle.ir_phrases.specs.Instructions.View.{instruction_view, block_view}
use Rattle.ir_syntax.specs.Counts.{block_count}
use Rattle.type_table.specs.Types.{structs}
use Rattle.module_arena.specs.Mentions.{block_results}
use Rattle.module_arena.specs.Known.{upto}
use Rattle.item_build.specs.Types.Holding.{entries}
use Rattle.item_build.proofs.OnTypes.Growing.{grows_not, grows_on}
use Rattle.item_build.proofs.OnTypes.Staying.{at_item}
use Rattle.item_build.specs.Buildable.Bodies.{CanBlock}
use Rattle.ir_resolve.specs.InstructionBuild.Named.{called_of}
use Rattle.ir_resolve.specs.Built.{block_results_count, block_built, blocks_built, AreBlocks}
use Rattle.ir_resolve.proofs.Meaning as meaning
use Rattle.ir_resolve.proofs.Order.{upto_none, in_order_step}
use Rattle.ir_resolve.proofs.Partial.{map_step, sum_step, sum_le}
use Rattle.ir_resolve.proofs.Staying.{blocks_more, block_still}
use Rattle.ir_resolve.proofs.blocks.build_blocks.Goals as goal

pub loop-block-init : goal.loop-block-init
loop-block-init c =
    let values = called_of c.args.locals.now.values.names.items in
    let labels = called_of c.args.locals.now.blocks.names.items in
    let none = c.in_ok-list.ensures.items in
    record {
      grows = grows_not c.args.builder.now.arena;
      so_far = subst (λ bs. AreBlocks values labels c.args.builder.now.arena bs []) (sym none) (record { known = λ k d lt. absurd (omega arith); blocks = refl });
      in_order = ap (flat_map block_results) none ∙ sym (upto_none c.args.first);
      next = omega arith;
      id = refl;
    }

pub build_block-requires : goal.build_block-requires
build_block-requires c =
    let a = c.args.builder.now.arena in
    let xs = c.args.written.now in
    let i = c.loop-block.block-index in
    let x = c.block-item.result in
    let values = called_of c.args.locals.now.values.names.items in
    let labels = called_of c.args.locals.now.blocks.names.items in
    let lt = c.loop-block-test.true in
    let is = c.block-item.is in
    let here = at_item (λ (b : WrittenBlock). CanBlock (structs a.table) (entries a) values labels (block_view b)) xs i x lt is c.requires.can in
    let sum = sum_step block_view xs i block_count x lt is in
    let le = sum_le block_view xs (i + 1) block_count in
    let fewer = meaning.block_results_le (map block_view (take i xs)) in
    let next = c.loop-block.invariant.next in
    let few = c.requires.few in
    let there = c.requires.there in
    let id = c.loop-block.invariant.id in
    let long = length-map x.instructions.items instruction_view in
    record {
      can = block_still _ _ c.loop-block.invariant.grows values labels (block_view x) here;
      few_values = c.requires.few_values;
      few_blocks = c.requires.few_blocks;
      there = omega (arith, lt, id, there);
      few = omega (arith, sum, le, fewer, next, few, long);
    }

pub loop-block-preserved : goal.loop-block-preserved
loop-block-preserved c =
    let xs = c.args.written.now in
    let i = c.loop-block.block-index in
    let x = c.block-item.result in
    let tree = block_view x in
    let done = map block_view (take i xs) in
    let first = c.args.first in
    let values = called_of c.args.locals.now.values.names.items in
    let labels = called_of c.args.locals.now.blocks.names.items in
    let so_far = c.loop-block.invariant in
    let one = c.in_ok-made.ensures in
    let lt = c.loop-block-test.true in
    let is = c.block-item.is in
    let sum = sum_step block_view xs i block_results_count x lt is in
    let next = so_far.next in
    let behind = one.next in
    let id = so_far.id in
    let long = length-map (take i xs) block_view in
    let part = length-take i xs in
    let here = c.new.ensures in
    let at_id : c.new.result ≡ 0 + length done = omega (arith, here, id, long, part, lt) in
    let whole = ap (blocks_built values labels 0 first) (map_step block_view xs i x lt is) ∙ meaning.blocks_more values labels 0 first done tree in
    let pushed = c.in_ok-push.ensures.items in
    record {
      grows = grows_on _ _ _ so_far.grows one.grows;
      so_far = subst (AreBlocks values labels c.build_block.new.builder.arena _) ((λ j. blocks_built values labels 0 first done ++ block_built values labels (at_id j) (next j) tree ∷ []) ∙ sym whole)
          (blocks_more _ _ one.grows values labels c.loop-block.list.items _ _ _ (block_built values labels c.new.result c.loop-block.next tree) pushed so_far.so_far one.is);
      in_order = in_order_step block_results c.loop-block.list.items _ _ pushed first (sum_by block_results_count done) (block_results_count tree) so_far.in_order (one.in_order ∙ ap (λ n. upto n (block_results_count tree)) next) ∙ ap (upto first) (sym sum);
      next = omega (arith, behind, next, sum);
      id = omega (arith, id);
    }

pub returns : goal.returns
returns c =
    let all = ap (map block_view) (take_all c.loop-block.block-index c.args.written.now (omega arith)) in
    let values = called_of c.args.locals.now.values.names.items in
    let labels = called_of c.args.locals.now.blocks.names.items in
    let so_far = c.loop-block.invariant in
    let list = c.from_vec.ensures in
    let a = c.loop-block.builder.arena in
    record {
      grows = so_far.grows;
      are = subst (λ bs. AreBlocks values labels a bs (blocks_built values labels 0 c.args.first (map block_view c.args.written.now))) (sym list)
          (subst (λ ts. AreBlocks values labels a c.loop-block.list.items (blocks_built values labels 0 c.args.first ts)) all so_far.so_far);
      in_order = ap (flat_map block_results) list ∙ so_far.in_order ∙ ap (λ ts. upto c.args.first (sum_by block_results_count ts)) all;
    }
