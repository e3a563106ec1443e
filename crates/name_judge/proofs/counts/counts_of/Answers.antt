use Rattle.std.proofs.Common.{ap, arith, List, length}
use Rattle.std.proofs.lemmas.List.{length-map}
use Rattle.ir_syntax.specs.declared.item.Item.{Item}
use Rattle.ir_syntax.specs.View.{item_view}
use Rattle.name_rules.specs.ModuleOf.{struct_in, variable_in, function_in, alias_in}
use Rattle.type_judge.proofs.OnOrder.Gathered.{items_more}
use Rattle.name_judge.proofs.Counted.{below, counts_more}
use Rattle.name_judge.proofs.counts.counts_of.Goals as goal

pub with_item-counts-requires-clause-structs : goal.with_item-counts-requires-clause-structs
with_item-counts-requires-clause-structs c =
    let few = below struct_in c.items.item-index c.as_slice-item-items.result.now in
    let same = ap (λ (xs : List Item). length xs) c.as_slice-item-items.ensures in
    let plain = length-map c.args.items.now item_view in
    omega (arith, few, same, plain, c.requires.few, c.items.invariant.structs)

pub with_item-counts-requires-clause-variables : goal.with_item-counts-requires-clause-variables
with_item-counts-requires-clause-variables c =
    let few = below variable_in c.items.item-index c.as_slice-item-items.result.now in
    let same = ap (λ (xs : List Item). length xs) c.as_slice-item-items.ensures in
    let plain = length-map c.args.items.now item_view in
    omega (arith, few, same, plain, c.requires.few, c.items.invariant.variables)

pub with_item-counts-requires-clause-functions : goal.with_item-counts-requires-clause-functions
with_item-counts-requires-clause-functions c =
    let few = below function_in c.items.item-index c.as_slice-item-items.result.now in
    let same = ap (λ (xs : List Item). length xs) c.as_slice-item-items.ensures in
    let plain = length-map c.args.items.now item_view in
    omega (arith, few, same, plain, c.requires.few, c.items.invariant.functions)

pub with_item-counts-requires-clause-aliases : goal.with_item-counts-requires-clause-aliases
with_item-counts-requires-clause-aliases c =
    let few = below alias_in c.items.item-index c.as_slice-item-items.result.now in
    let same = ap (λ (xs : List Item). length xs) c.as_slice-item-items.ensures in
    let plain = length-map c.args.items.now item_view in
    omega (arith, few, same, plain, c.requires.few, c.items.invariant.aliases)

pub items-preserved : goal.items-preserved
items-preserved c =
    let more = items_more c.as_slice-item-items.result.now c.items.item-index c.item-item.result (omega arith) c.item-item.is in
    let now = c.with_item-counts.ensures in
    counts_more _ (item_view c.item-item.result) _ c.items.counts c.with_item-counts.result more c.items.invariant now.structs now.variables now.functions now.aliases
