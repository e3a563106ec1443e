use Rattle.std.proofs.Common.{◌+◌, List, All, take, drop, sym, subst, ap, ◌∙◌, bytes_eq, arith}
use Rattle.ir_tables.specs.Table.{is_distinct}
use Rattle.ir_syntax.specs.Counts.{counted}
use Rattle.ir_syntax.specs.Tree.{ItemTree}
use Rattle.ir_syntax.specs.View.{item_view, items_view}
use Rattle.type_table.specs.Tree.{Structs}
use Rattle.module_arena.specs.Module.{Module}
use Rattle.module_arena.specs.View.{module_of}
use Rattle.name_rules.specs.ModuleOf.{structs_in}
use Rattle.item_build.specs.Types.Declarations.{AreFew}
use Rattle.item_build.specs.Buildable.Entries.{CanDeclare}
use Rattle.item_build.specs.Buildable.Laws.{global_names}
use Rattle.item_build.specs.Declaring.{declared_in, with_declared, declared_variables, declared_aliases, declared_functions, counts_in}
use Rattle.item_build.proofs.Declared.{declared_more, declared_named, nothing_declared, nothing_targeted, structs_kept, count_within}
use Rattle.item_build.proofs.NamedItems.{name_is_new}
use Rattle.item_build.proofs.Room.{room_for}
use Rattle.item_build.proofs.Walked.{view_more, view_split, all_between}
use Rattle.item_build.proofs.declaring.declare_items.Goals as goal

pub items-init : goal.items-init
items-init c = record {
  joined = nothing_declared c.args.builder.now.arena c.requires.empty;
  untargeted = nothing_targeted c.args.builder.now.arena c.requires.empty;
}

pub declare_item-requires-clause-can : goal.declare_item-requires-clause-can
declare_item-requires-clause-can c =
    let items = c.args.items.now in
    let i = c.items.item-index in
    let x = c.item-item.result in
    let first = items_view (take i items) in
    let split = view_split item_view items i x (omega arith) c.item-item.is in
    let same = structs_kept c.args.builder.now.arena c.items.builder.arena (declared_variables first) (declared_aliases first) (declared_functions first) c.items.invariant.joined ∙ c.requires.structs in
    let all = subst (λ (xs : List ItemTree). All (CanDeclare (structs_in (items_view items))) xs) split c.requires.buildable.declared in
    subst (λ (ss : Structs). CanDeclare ss (item_view x)) (sym same) (all_between (CanDeclare (structs_in (items_view items))) first (item_view x) (items_view (drop (i + 1) items)) all)

pub declare_item-requires-clause-few_parameters : goal.declare_item-requires-clause-few_parameters
declare_item-requires-clause-few_parameters c =
    let items = c.args.items.now in
    let i = c.items.item-index in
    let x = c.item-item.result in
    let split = ap counted (view_split item_view items i x (omega arith) c.item-item.is) in
    let le = count_within (items_view (take i items)) (item_view x) (items_view (drop (i + 1) items)) in
    let few = c.requires.few_parts in
    omega (arith, split, le, few)

pub declare_item-requires-clause-free : goal.declare_item-requires-clause-free
declare_item-requires-clause-free c =
    let items = c.args.items.now in
    let i = c.items.item-index in
    let x = c.item-item.result in
    let first = items_view (take i items) in
    let split = view_split item_view items i x (omega arith) c.item-item.is in
    let named = declared_named c.items.builder.arena (module_of c.args.builder.now.arena) first c.items.invariant.joined in
    name_is_new c.items.builder.arena first (item_view x) (items_view (drop (i + 1) items)) named
    (ap (λ (xs : List ItemTree). is_distinct bytes_eq (global_names xs)) (sym split) ∙ c.requires.buildable.globals)

pub declare_item-requires-clause-room : goal.declare_item-requires-clause-room
declare_item-requires-clause-room c =
    let items = c.args.items.now in
    let i = c.items.item-index in
    let x = c.item-item.result in
    let first = items_view (take i items) in
    let split = view_split item_view items i x (omega arith) c.item-item.is in
    room_for c.items.builder.arena (module_of c.args.builder.now.arena) first c.items.invariant.joined (item_view x) (items_view (drop (i + 1) items))
    (subst (λ (xs : List ItemTree). AreFew (counts_in xs)) split c.requires.few)

pub items-preserved : goal.items-preserved
items-preserved c =
    let items = c.args.items.now in
    let i = c.items.item-index in
    let x = c.item-item.result in
    let start = module_of c.args.builder.now.arena in
    let more = view_more item_view items i x (omega arith) c.item-item.is in
    record {
      joined = c.in_ok-declare_item.ensures.module ∙ ap (λ (w : Module). declared_in w (item_view x)) c.items.invariant.joined ∙ declared_more start (items_view (take i items)) (item_view x) ∙ sym (ap (with_declared start) more);
      untargeted = c.in_ok-declare_item.ensures.untargeted c.items.invariant.untargeted;
    }
