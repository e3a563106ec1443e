use Rattle.std.proofs.Common.{◌+◌, List, length, take, drop, bytes_eq, refl, sym, ap, ◌∙◌, arith}
use Rattle.std.proofs.lemmas.List.{length-map}
use Rattle.ir_tables.specs.Table.{is_distinct}
use Rattle.ir_syntax.specs.Tree.{ItemTree}
use Rattle.ir_syntax.specs.View.{item_view, items_view}
use Rattle.type_table.specs.Types.{Types, structs}
use Rattle.module_arena.specs.Module.{Module}
use Rattle.name_rules.specs.ModuleOf.{structs_in}
use Rattle.item_build.proofs.Walked.{view_more, view_split}
use Rattle.item_build.specs.Named.{named_table, named_in}
use Rattle.item_build.specs.Partly.{names_of, with_structs}
use Rattle.item_build.proofs.Named.{named_more, struct_is_new, structs_before}
use Rattle.item_build.proofs.Partly.{same_structs}
use Rattle.item_build.proofs.naming.name_structs.Goals as goal

pub items-init : goal.items-init
items-init c = record { table = c.requires.empty; joined = same_structs c.args.builder.now.arena; others = refl }

pub name_item-requires-clause-few : goal.name_item-requires-clause-few
name_item-requires-clause-few c =
    let items = c.args.items.now in
    let i = c.items.item-index in
    let first = items_view (take i items) in
    let x = item_view c.item-item.result in
    let rest = items_view (drop (i + 1) items) in
    let split = view_split item_view items i c.item-item.result (omega arith) c.item-item.is in
    let le = structs_before first x rest (items_view items) split in
    let few = c.requires.buildable.few_structs in
    let same = ap (λ (t : Types). length t.structs) c.items.invariant.table ∙ length-map (structs_in first) _ in
    omega (arith, le, few, same)

pub name_item-requires-clause-free : goal.name_item-requires-clause-free
name_item-requires-clause-free c =
    let items = c.args.items.now in
    let i = c.items.item-index in
    let split = view_split item_view items i c.item-item.result (omega arith) c.item-item.is in
    struct_is_new c.items.builder.arena.table (items_view (take i items)) (item_view c.item-item.result) (items_view (drop (i + 1) items)) c.items.invariant.table
    (ap (λ (xs : List ItemTree). is_distinct bytes_eq (names_of (structs_in xs))) (sym split) ∙ c.requires.buildable.structs)

pub items-preserved : goal.items-preserved
items-preserved c =
    let items = c.args.items.now in
    let i = c.items.item-index in
    let x = item_view c.item-item.result in
    let more = view_more item_view items i c.item-item.result (omega arith) c.item-item.is in
    record {
      table = c.in_ok-name_item.ensures.table ∙ ap (λ (t : Types). named_in t x) c.items.invariant.table ∙ named_more (items_view (take i items)) x ∙ sym (ap (λ (xs : List ItemTree). named_table (structs_in xs)) more);
      joined = c.in_ok-name_item.ensures.module ∙ ap (λ (m : Module). with_structs m (structs c.name_item.new.builder.arena.table)) c.items.invariant.joined;
      others = c.in_ok-name_item.ensures.entries ∙ c.items.invariant.others;
    }
