use Rattle.ir_syntax.specs.View.{items_view}
use Rattle.ir_resolve.proofs.Whole.{declared_structs, names_declared, aliases_declared, targeted_structs, names_targeted, variables_targeted, initialised_structs, names_initialised, functions_initialised, all_completed}
use Rattle.ir_resolve.proofs.building.build_entries.Goals as goal

pub set_targets-requires-clause-structs : goal.set_targets-requires-clause-structs
set_targets-requires-clause-structs c = declared_structs (items_view c.args.items.now) _ _ c.in_ok-declare_items.ensures.module c.requires.structs

pub set_targets-requires-clause-named : goal.set_targets-requires-clause-named
set_targets-requires-clause-named c = names_declared (items_view c.args.items.now) _ _ c.in_ok-declare_items.ensures.module

pub set_targets-requires-clause-declared : goal.set_targets-requires-clause-declared
set_targets-requires-clause-declared c = aliases_declared (items_view c.args.items.now) _ _ c.in_ok-declare_items.ensures.module

pub initialise_items-requires-clause-structs : goal.initialise_items-requires-clause-structs
initialise_items-requires-clause-structs c = targeted_structs (items_view c.args.items.now) _ _ c.in_ok-declare_items.ensures.module _ c.in_ok-set_targets.ensures c.requires.structs

pub initialise_items-requires-clause-named : goal.initialise_items-requires-clause-named
initialise_items-requires-clause-named c = names_targeted (items_view c.args.items.now) _ _ c.in_ok-declare_items.ensures.module _ c.in_ok-set_targets.ensures

pub initialise_items-requires-clause-declared : goal.initialise_items-requires-clause-declared
initialise_items-requires-clause-declared c = variables_targeted (items_view c.args.items.now) _ _ c.in_ok-declare_items.ensures.module _ c.in_ok-set_targets.ensures

pub define_items-requires-clause-structs : goal.define_items-requires-clause-structs
define_items-requires-clause-structs c =
    initialised_structs (items_view c.args.items.now) _ _ c.in_ok-declare_items.ensures.module _ c.in_ok-set_targets.ensures _ c.in_ok-initialise_items.ensures c.requires.structs

pub define_items-requires-clause-named : goal.define_items-requires-clause-named
define_items-requires-clause-named c =
    names_initialised (items_view c.args.items.now) _ _ c.in_ok-declare_items.ensures.module _ c.in_ok-set_targets.ensures _ c.in_ok-initialise_items.ensures

pub define_items-requires-clause-declared : goal.define_items-requires-clause-declared
define_items-requires-clause-declared c =
    functions_initialised (items_view c.args.items.now) _ _ c.in_ok-declare_items.ensures.module _ c.in_ok-set_targets.ensures _ c.in_ok-initialise_items.ensures

pub returns : goal.returns
returns c =
    all_completed (items_view c.args.items.now) _ _ c.in_ok-declare_items.ensures.module _ c.in_ok-set_targets.ensures _ c.in_ok-initialise_items.ensures _ c.in_ok-define_items.ensures
