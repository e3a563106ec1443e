use Rattle.std.proofs.Common.{◌+◌, ◌++◌, List, All, map, length, take, drop, refl, sym, subst, ap, ◌∙◌, arith}
use Rattle.std.specs.Prelude.{filter_map, option_to_list}
use Rattle.std.proofs.lemmas.List.{length-append, map-append, take-append-drop, take_all, drop_all}
use Rattle.ir_syntax.specs.Tree.{ItemTree}
use Rattle.ir_syntax.specs.View.{item_view, items_view}
use Rattle.type_table.specs.Tree.{Structs}
use Rattle.module_arena.specs.Module.{Module}
use Rattle.module_arena.specs.View.{module_of}
use Rattle.module_arena.specs.WellFormed as formed
use Rattle.name_rules.specs.ModuleOf.{structs_in, variable_in}
use Rattle.item_build.specs.Types.Holding.{entries}
use Rattle.item_build.specs.Buildable.Entries.{CanDeclare, CanComplete}
use Rattle.item_build.specs.Types.Declarations.{without_initialiser}
use Rattle.item_build.specs.Declaring.{declared_variables, counts_in}
use Rattle.item_build.specs.Completing.{initialised_in, variable_behind, with_initialisers}
use Rattle.item_build.proofs.Completed.{initialisers_more, initialisers_named, no_initialisers, next_is_unset}
use Rattle.item_build.proofs.Declared.{structs_kept}
use Rattle.item_build.proofs.NamedItems.{entries_there}
use Rattle.item_build.proofs.Room.{are_small, variables_counted}
use Rattle.item_build.proofs.Walked.{view_more, view_rest, view_split, all_between, length_mixed, length_parted, taken}
use Rattle.item_build.proofs.initialisers.initialise_items.Goals as goal

pub items-init : goal.items-init
items-init c = record {
  joined = no_initialisers (module_of c.args.builder.now.arena) (items_view c.args.items.now) c.requires.declared;
  number = refl;
}

pub initialise_in-requires-clause-known : goal.initialise_in-requires-clause-known
initialise_in-requires-clause-known c =
    let items = c.args.items.now in
    let i = c.items.item-index in
    let x = item_view c.item-item.result in
    let first = items_view (take i items) in
    let rest = items_view (drop (i + 1) items) in
    let here = view_rest item_view items i c.item-item.result (omega arith) c.item-item.is in
    let same = sym (variables_counted c.items.builder.arena) ∙ ap (λ (w : Module). length w.variables) c.items.invariant.joined ∙ ap (λ (xs : List ItemTree). length (filter_map variable_in first ++ declared_variables xs)) here in
    let count = length_mixed variable_in without_initialiser first x rest in
    let number = c.items.invariant.number in
    omega (arith, same, count, number)

pub initialise_in-requires-clause-small : goal.initialise_in-requires-clause-small
initialise_in-requires-clause-small c =
    let items = c.args.items.now in
    let i = c.items.item-index in
    let x = item_view c.item-item.result in
    let first = items_view (take i items) in
    let rest = items_view (drop (i + 1) items) in
    let here = view_rest item_view items i c.item-item.result (omega arith) c.item-item.is in
    let same = sym (variables_counted c.items.builder.arena) ∙ ap (λ (w : Module). length w.variables) c.items.invariant.joined ∙ ap (λ (xs : List ItemTree). length (filter_map variable_in first ++ declared_variables xs)) here in
    let count = length_mixed variable_in without_initialiser first x rest in
    let whole = ap (λ (xs : List ItemTree). length (filter_map variable_in xs)) (view_split item_view items i c.item-item.result (omega arith) c.item-item.is) ∙ length_parted variable_in first x rest in
    let small = (are_small (counts_in (items_view items)) c.requires.few).variables in
    omega (arith, same, count, whole, small)

pub initialise_in-requires-clause-undefined : goal.initialise_in-requires-clause-undefined
initialise_in-requires-clause-undefined c v one is =
    let items = c.args.items.now in
    let i = c.items.item-index in
    let start = module_of c.args.builder.now.arena in
    let first = items_view (take i items) in
    let here = view_rest item_view items i c.item-item.result (omega arith) c.item-item.is in
    next_is_unset c.items.builder.arena start first (items_view (drop (i + 1) items)) (item_view c.item-item.result) c.items.number v (c.items.invariant.joined ∙ ap (with_initialisers start first) here) c.items.invariant.number one is

pub initialise_in-requires-clause-declared : goal.initialise_in-requires-clause-declared
initialise_in-requires-clause-declared c =
    let items = c.args.items.now in
    let i = c.items.item-index in
    let ss = structs_in (items_view items) in
    let split = view_split item_view items i c.item-item.result (omega arith) c.item-item.is in
    let same = structs_kept c.args.builder.now.arena c.items.builder.arena _ _ _ c.items.invariant.joined ∙ c.requires.structs in
    let all = subst (λ (xs : List ItemTree). All (CanDeclare ss) xs) split c.requires.buildable.declared in
    subst (λ (s : Structs). CanDeclare s (item_view c.item-item.result)) (sym same) (all_between (CanDeclare ss) (items_view (take i items)) (item_view c.item-item.result) (items_view (drop (i + 1) items)) all)

pub initialise_in-requires-clause-can : goal.initialise_in-requires-clause-can
initialise_in-requires-clause-can c =
    let items = c.args.items.now in
    let i = c.items.item-index in
    let x = item_view c.item-item.result in
    let first = items_view (take i items) in
    let start = module_of c.args.builder.now.arena in
    let a = c.items.builder.arena in
    let ss = structs_in (items_view items) in
    let split = view_split item_view items i c.item-item.result (omega arith) c.item-item.is in
    let halves = sym (ap (map item_view) (take-append-drop i items)) ∙ map-append item_view (take i items) (drop i items) in
    let named = ap formed.global_names c.items.invariant.joined ∙ initialisers_named start first (items_view (drop i items)) (c.requires.declared ∙ ap declared_variables halves) ∙ c.requires.named in
    let same = structs_kept c.args.builder.now.arena a _ _ _ c.items.invariant.joined ∙ c.requires.structs in
    let all = subst (λ (xs : List ItemTree). All (CanComplete ss (entries a)) xs) split (c.requires.buildable.completed (entries a) (entries_there a (items_view items) named)) in
    subst (λ (s : Structs). CanComplete s (entries a) x) (sym same) (all_between (CanComplete ss (entries a)) first x (items_view (drop (i + 1) items)) all)

pub items-preserved : goal.items-preserved
items-preserved c =
    let items = c.args.items.now in
    let i = c.items.item-index in
    let x = item_view c.item-item.result in
    let first = items_view (take i items) in
    let rest = items_view (drop (i + 1) items) in
    let start = module_of c.args.builder.now.arena in
    let more = view_more item_view items i c.item-item.result (omega arith) c.item-item.is in
    let here = view_rest item_view items i c.item-item.result (omega arith) c.item-item.is in
    let next = length-append (filter_map variable_in first) (option_to_list (variable_in x)) in
    record {
      joined = c.in_ok-number.ensures.module
          ∙ (λ j. initialised_in ((c.items.invariant.joined ∙ ap (with_initialisers start first) here) j) (c.items.invariant.number j) x)
          ∙ initialisers_more start first rest x
          ∙ sym (ap (λ (xs : List ItemTree). with_initialisers start xs rest) more);
      number = c.in_ok-number.ensures.next ∙ ap (λ n. variable_behind n x) c.items.invariant.number ∙ sym next ∙ sym (ap length (taken variable_in first x)) ∙ sym (ap (λ (xs : List ItemTree). length (filter_map variable_in xs)) more);
    }

pub returns : goal.returns
returns c =
    let items = c.args.items.now in
    let front = take_all c.items.item-index items (omega arith) in
    let back = drop_all c.items.item-index items (omega arith) in
    c.items.invariant.joined ∙ (λ j. with_initialisers (module_of c.args.builder.now.arena) (items_view (front j)) (items_view (back j)))
