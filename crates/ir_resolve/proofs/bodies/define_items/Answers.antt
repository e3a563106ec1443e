use Rattle.std.proofs.Common.{◌+◌, ◌++◌, List, All, map, length, take, drop, refl, sym, subst, ap, ◌∙◌, arith}
use Rattle.std.specs.Prelude.{filter_map, option_to_list}
use Rattle.std.proofs.lemmas.List.{length-append, map-append, take-append-drop, take_all, drop_all}
use Rattle.ir_syntax.specs.Tree.{ItemTree}
use Rattle.ir_syntax.specs.View.{item_view, items_view}
use Rattle.type_table.specs.Tree.{Structs}
use Rattle.module_arena.specs.Module.{Module}
use Rattle.module_arena.specs.View.{module_of}
use Rattle.module_arena.specs.WellFormed as formed
use Rattle.name_rules.specs.ModuleOf.{structs_in, function_in}
use Rattle.item_build.specs.Types.Holding.{entries}
use Rattle.item_build.specs.Buildable.Entries.{CanComplete}
use Rattle.item_build.specs.Types.Parameters.{without_body}
use Rattle.item_build.specs.Declaring.{declared_functions, counts_in}
use Rattle.ir_resolve.specs.Defining.{defined_in, function_behind, with_bodies}
use Rattle.ir_resolve.proofs.Defined.{bodies_more, bodies_named, no_bodies, next_is_undefined, next_is_called}
use Rattle.item_build.proofs.Declared.{structs_kept}
use Rattle.item_build.proofs.NamedItems.{entries_there}
use Rattle.item_build.proofs.Room.{are_small, functions_counted}
use Rattle.item_build.proofs.Walked.{view_more, view_rest, view_split, all_between, length_mixed, length_parted, taken}
use Rattle.ir_resolve.proofs.bodies.define_items.Goals as goal

pub items-init : goal.items-init
items-init c = record {
  joined = no_bodies (module_of c.args.builder.now.arena) (items_view c.args.items.now) c.requires.declared;
  number = refl;
}

pub define_item-requires-clause-known : goal.define_item-requires-clause-known
define_item-requires-clause-known c =
    let items = c.args.items.now in
    let i = c.items.item-index in
    let x = item_view c.item-item.result in
    let first = items_view (take i items) in
    let rest = items_view (drop (i + 1) items) in
    let here = view_rest item_view items i c.item-item.result (omega arith) c.item-item.is in
    let same = sym (functions_counted c.items.builder.arena) ∙ ap (λ (w : Module). length w.functions) c.items.invariant.joined ∙ ap (λ (xs : List ItemTree). length (filter_map function_in first ++ declared_functions xs)) here in
    let count = length_mixed function_in without_body first x rest in
    let number = c.items.invariant.number in
    omega (arith, same, count, number)

pub define_item-requires-clause-small : goal.define_item-requires-clause-small
define_item-requires-clause-small c =
    let items = c.args.items.now in
    let i = c.items.item-index in
    let x = item_view c.item-item.result in
    let first = items_view (take i items) in
    let rest = items_view (drop (i + 1) items) in
    let here = view_rest item_view items i c.item-item.result (omega arith) c.item-item.is in
    let same = sym (functions_counted c.items.builder.arena) ∙ ap (λ (w : Module). length w.functions) c.items.invariant.joined ∙ ap (λ (xs : List ItemTree). length (filter_map function_in first ++ declared_functions xs)) here in
    let count = length_mixed function_in without_body first x rest in
    let whole = ap (λ (xs : List ItemTree). length (filter_map function_in xs)) (view_split item_view items i c.item-item.result (omega arith) c.item-item.is) ∙ length_parted function_in first x rest in
    let small = (are_small (counts_in (items_view items)) c.requires.few).functions in
    omega (arith, same, count, whole, small)

pub define_item-requires-clause-undefined : goal.define_item-requires-clause-undefined
define_item-requires-clause-undefined c f one is =
    let items = c.args.items.now in
    let i = c.items.item-index in
    let start = module_of c.args.builder.now.arena in
    let first = items_view (take i items) in
    let here = view_rest item_view items i c.item-item.result (omega arith) c.item-item.is in
    next_is_undefined c.items.builder.arena start first (items_view (drop (i + 1) items)) c.items.number c.items.invariant.number (item_view c.item-item.result) (c.items.invariant.joined ∙ ap (with_bodies start first) here) f one is

pub define_item-requires-clause-called : goal.define_item-requires-clause-called
define_item-requires-clause-called c f is =
    let items = c.args.items.now in
    let i = c.items.item-index in
    let start = module_of c.args.builder.now.arena in
    let first = items_view (take i items) in
    let here = view_rest item_view items i c.item-item.result (omega arith) c.item-item.is in
    next_is_called c.items.builder.arena start first (items_view (drop (i + 1) items)) c.items.number c.items.invariant.number (item_view c.item-item.result) (c.items.invariant.joined ∙ ap (with_bodies start first) here) f is

pub define_item-requires-clause-can : goal.define_item-requires-clause-can
define_item-requires-clause-can c =
    let items = c.args.items.now in
    let i = c.items.item-index in
    let x = item_view c.item-item.result in
    let first = items_view (take i items) in
    let start = module_of c.args.builder.now.arena in
    let a = c.items.builder.arena in
    let ss = structs_in (items_view items) in
    let split = view_split item_view items i c.item-item.result (omega arith) c.item-item.is in
    let halves = sym (ap (map item_view) (take-append-drop i items)) ∙ map-append item_view (take i items) (drop i items) in
    let named = ap formed.global_names c.items.invariant.joined ∙ bodies_named start first (items_view (drop i items)) (c.requires.declared ∙ ap declared_functions halves) ∙ c.requires.named in
    let same = structs_kept c.args.builder.now.arena a _ _ _ c.items.invariant.joined ∙ c.requires.structs in
    let all = subst (λ (xs : List ItemTree). All (CanComplete ss (entries a)) xs) split (c.requires.buildable.completed (entries a) (entries_there a (items_view items) named)) in
    subst (λ (s : Structs). CanComplete s (entries a) x) (sym same) (all_between (CanComplete ss (entries a)) first x (items_view (drop (i + 1) items)) all)

pub items-preserved : goal.items-preserved
items-preserved c =
    let items = c.args.items.now in
    let i = c.items.item-index in
    let x = item_view c.item-item.result in
    let first = items_view (take i items) in
    let rest = items_view (drop (i + 1) items) in
    let start = module_of c.args.builder.now.arena in
    let more = view_more item_view items i c.item-item.result (omega arith) c.item-item.is in
    let here = view_rest item_view items i c.item-item.result (omega arith) c.item-item.is in
    let next = length-append (filter_map function_in first) (option_to_list (function_in x)) in
    record {
      joined = c.in_ok-number.ensures.module
          ∙ (λ j. defined_in ((c.items.invariant.joined ∙ ap (with_bodies start first) here) j) (c.items.invariant.number j) x)
          ∙ bodies_more start first rest x
          ∙ sym (ap (λ (xs : List ItemTree). with_bodies start xs rest) more);
      number = c.in_ok-number.ensures.next ∙ ap (λ n. function_behind n x) c.items.invariant.number ∙ sym next ∙ sym (ap length (taken function_in first x)) ∙ sym (ap (λ (xs : List ItemTree). length (filter_map function_in xs)) more);
    }

pub returns : goal.returns
returns c =
    let items = c.args.items.now in
    let front = take_all c.items.item-index items (omega arith) in
    let back = drop_all c.items.item-index items (omega arith) in
    c.items.invariant.joined ∙ (λ j. with_bodies (module_of c.args.builder.now.arena) (items_view (front j)) (items_view (back j)))
