use Rattle.std.proofs.Common.{◌≡◌, ◌+◌, ◌++◌, ◌∷◌, [], map, flat_map, take, length, sym, ap, ◌∙◌, arith}
use Rattle.std.proofs.lemmas.List.{length-map, append-nil, append_assoc, take_all}
use Rattle.ir_phrases.specs.Instructions.View.{instruction_view, block_view}
use Rattle.ir_syntax.specs.Counts.{block_count}
use Rattle.ir_syntax.specs.View.{parameter_view}
use Rattle.module_arena.specs.View.{local_view}
use Rattle.name_rules.specs.Bodies.{block_in, blocks_in}
use Rattle.name_rules.specs.Locals.{next_after, announced_parameter, announced_block}
use Rattle.item_build.specs.Buildable.Bodies.{parameter_names, result_names, values_of, labels_of}
use Rattle.ir_resolve.proofs.Numbers.{results, label, behind_more, results_more, labels_more, behind_block_le, behind_parameters_le, parameters_named, names_le, label_le}
use Rattle.ir_resolve.proofs.Partial.{map_step, sum_step, sum_le}
use Rattle.ir_resolve.proofs.gathered.gather.Goals as goal

pub add_parameters-requires : goal.add_parameters-requires
add_parameters-requires c =
    let none = ap length c.clear.ensures.values in
    let few = c.requires in
    omega (arith, none, few)

pub loop-block-init : goal.loop-block-init
loop-block-init c =
    let ps = map parameter_view c.args.parameters.now in
    let named : map local_view c.add_parameters.new.self.names.items ≡ parameter_names ps = c.in_ok-next.ensures.names ∙ ap (λ xs. map local_view xs ++ parameter_names ps) c.clear.ensures.values in
    let behind = behind_parameters_le 0 ps in
    let long = length-map c.args.parameters.now parameter_view in
    let next = c.in_ok-next.ensures.next in
    let many = ap length named in
    let counted = length-map c.add_parameters.new.self.names.items local_view in
    let each = parameters_named 0 ps in
    let none = ap length c.clear.ensures.blocks in
    record {
      next = next;
      values = named ∙ sym (append-nil (parameter_names ps));
      labels = ap (map local_view) c.clear.ensures.blocks;
      numbers = omega (arith, behind, long, next);
      few_values = omega (arith, many, counted, each, long);
      few_labels = omega (arith, none);
    }

pub add_block-requires : goal.add_block-requires
add_block-requires c =
    let step = sum_step block_view c.args.blocks.now c.loop-block.block-index block_count c.block-item.result c.loop-block-test.true c.block-item.is in
    let le = sum_le block_view c.args.blocks.now (c.loop-block.block-index + 1) block_count in
    let few = c.requires in
    let numbers = c.loop-block.invariant.numbers in
    let values = c.loop-block.invariant.few_values in
    let labels = c.loop-block.invariant.few_labels in
    let long = length-map c.block-item.result.instructions.items instruction_view in
    record { numbers = omega (arith, step, le, few, numbers, long); few_values = omega (arith, step, le, few, values, long); few_blocks = omega (arith, step, le, few, labels) }

pub loop-block-preserved : goal.loop-block-preserved
loop-block-preserved c =
    let xs = c.args.blocks.now in
    let i = c.loop-block.block-index in
    let x = c.block-item.result in
    let tree = block_view x in
    let done = map block_view (take i xs) in
    let ps = map parameter_view c.args.parameters.now in
    let first = next_after 0 (map announced_parameter ps) in
    let at = next_after first (flat_map announced_block done) in
    let lt = c.loop-block-test.true in
    let is = c.block-item.is in
    let step = map_step block_view xs i x lt is in
    let sum = sum_step block_view xs i block_count x lt is in
    let so_far = c.loop-block.invariant in
    let one = c.in_ok-next-2.ensures in
    let le = behind_block_le c.loop-block.next tree in
    let next = one.next in
    let numbers = so_far.numbers in
    let more = names_le c.loop-block.locals.values.names.items c.add_block.new.values.names.items c.loop-block.next tree one.results in
    let values = so_far.few_values in
    let one_label = label_le c.loop-block.locals.blocks.names.items c.add_block.new.blocks.names.items _ one.label in
    let labels = so_far.few_labels in
    record {
      next = next ∙ ap (λ n. next_after n (announced_block tree)) so_far.next ∙ sym (ap (λ ts. next_after first (flat_map announced_block ts)) step ∙ behind_more first done tree);
      values = one.results
          ∙ (λ j. so_far.values j ++ results (block_in (so_far.next j) tree))
          ∙ append_assoc (parameter_names ps) (result_names (blocks_in first done)) (results (block_in at tree))
          ∙ ap (λ rest. parameter_names ps ++ rest) (sym (ap (λ ts. result_names (blocks_in first ts)) step ∙ results_more first done tree));
      labels = one.label
          ∙ (λ j. so_far.labels j ++ (block_in (so_far.next j) tree).name ∷ [])
          ∙ sym (ap (λ ts. map label (blocks_in first ts)) step ∙ labels_more first done tree);
      numbers = omega (arith, le, next, numbers, sum);
      few_values = omega (arith, more, values, sum);
      few_labels = omega (arith, one_label, labels, sum);
    }

pub returns : goal.returns
returns c =
    let ps = map parameter_view c.args.parameters.now in
    let all = ap (map block_view) (take_all c.loop-block.block-index c.args.blocks.now (omega arith)) in
    record {
      values = c.loop-block.invariant.values ∙ ap (values_of ps) all;
      labels = c.loop-block.invariant.labels ∙ ap (labels_of ps) all;
    }
