use Rattle.std.proofs.Common.{◌+◌, List, All, length, take, drop, refl, sym, subst, ap, ◌∙◌, arith}
use Rattle.std.specs.Prelude.{option_to_list}
use Rattle.std.proofs.lemmas.List.{length-append, take_all}
use Rattle.ir_syntax.specs.Tree.{ItemTree}
use Rattle.ir_syntax.specs.View.{item_view, items_view}
use Rattle.type_table.specs.Types.{structs}
use Rattle.module_arena.specs.Module.{Module}
use Rattle.module_arena.specs.View.{module_of}
use Rattle.name_rules.specs.ModuleOf.{struct_in, structs_in}
use Rattle.item_build.specs.Buildable.Entries.{CanDeclare}
use Rattle.item_build.proofs.Walked.{view_more, view_split, all_between, taken}
use Rattle.item_build.specs.Named.{struct_behind}
use Rattle.item_build.specs.Partly.{with_structs}
use Rattle.item_build.proofs.Named.{structs_before, can_item, all_done}
use Rattle.item_build.proofs.Partly.{same_structs}
use Rattle.item_build.proofs.building.define_structs.Goals as goal

pub items-init : goal.items-init
items-init c = record { joined = same_structs c.args.builder.now.arena; others = refl; partly = c.requires.partly; number = refl; done = λ k lt. absurd (omega (arith, lt)) }

pub define_item-requires-clause-small : goal.define_item-requires-clause-small
define_item-requires-clause-small c =
    let items = c.args.items.now in
    let i = c.items.item-index in
    let split = view_split item_view items i c.item-item.result (omega arith) c.item-item.is in
    let le = structs_before (items_view (take i items)) (item_view c.item-item.result) (items_view (drop (i + 1) items)) (items_view items) split in
    let few = c.requires.buildable.few_structs in
    let number = c.items.invariant.number in
    omega (arith, le, few, number)

pub define_item-requires-clause-can : goal.define_item-requires-clause-can
define_item-requires-clause-can c =
    let items = c.args.items.now in
    let i = c.items.item-index in
    let x = item_view c.item-item.result in
    let first = items_view (take i items) in
    let rest = items_view (drop (i + 1) items) in
    let whole = structs_in (items_view items) in
    let split = view_split item_view items i c.item-item.result (omega arith) c.item-item.is in
    let declared = all_between (CanDeclare whole) first x rest (subst (λ (xs : List ItemTree). All (CanDeclare whole) xs) split c.requires.buildable.declared) in
    (whole, can_item c.items.builder.arena first rest (items_view items) c.items.number c.items.invariant.number c.items.invariant.partly c.requires.fit x split declared)

pub items-preserved : goal.items-preserved
items-preserved c =
    let items = c.args.items.now in
    let i = c.items.item-index in
    let x = item_view c.item-item.result in
    let first = items_view (take i items) in
    let rest = items_view (drop (i + 1) items) in
    let whole = structs_in (items_view items) in
    let split = view_split item_view items i c.item-item.result (omega arith) c.item-item.is in
    let more = view_more item_view items i c.item-item.result (omega arith) c.item-item.is in
    let declared = all_between (CanDeclare whole) first x rest (subst (λ (xs : List ItemTree). All (CanDeclare whole) xs) split c.requires.buildable.declared) in
    let can = can_item c.items.builder.arena first rest (items_view items) c.items.number c.items.invariant.number c.items.invariant.partly c.requires.fit x split declared in
    let next = length-append (structs_in first) (option_to_list (struct_in x)) in
    record {
      joined = c.in_ok-number.ensures.module ∙ ap (λ (m : Module). with_structs m (structs c.define_item.new.builder.arena.table)) c.items.invariant.joined;
      others = c.in_ok-number.ensures.entries ∙ c.items.invariant.others;
      partly = c.in_ok-number.ensures.partly whole can c.items.invariant.partly;
      number = c.in_ok-number.ensures.next ∙ ap (λ n. struct_behind n x) c.items.invariant.number ∙ sym next ∙ sym (ap length (taken struct_in first x)) ∙ sym (ap (λ (xs : List ItemTree). length (structs_in xs)) more);
      done = c.in_ok-number.ensures.done whole can c.items.invariant.done;
    }

pub returns-clause-module : goal.returns-clause-module
returns-clause-module c =
    let items = c.args.items.now in
    let whole = structs_in (items_view items) in
    let count = c.items.invariant.number ∙ ap (λ (xs : List _). length (structs_in (items_view xs))) (take_all c.items.item-index items (omega arith)) in
    c.items.invariant.joined ∙ ap (with_structs (module_of c.args.builder.now.arena)) (all_done whole c.items.builder.arena c.items.number c.items.invariant.partly c.items.invariant.done count)
