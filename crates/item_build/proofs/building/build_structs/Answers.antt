use Rattle.std.proofs.Common.{ap, ◌∙◌}
use Rattle.ir_syntax.specs.View.{items_view}
use Rattle.type_table.specs.Types.{structs}
use Rattle.module_arena.specs.Module.{Module}
use Rattle.name_rules.specs.ModuleOf.{structs_in}
use Rattle.name_rules.proofs.Fine.{structs_fine, unbroken}
use Rattle.item_build.specs.Partly.{with_structs}
use Rattle.item_build.proofs.Named.{partly_named, all_fit}
use Rattle.item_build.proofs.building.build_structs.Goals as goal

pub define_structs-requires-clause-fit : goal.define_structs-requires-clause-fit
define_structs-requires-clause-fit c =
    let items = items_view c.args.items.now in
    let whole = structs_in items in
    all_fit whole whole (structs_fine items (unbroken items c.requires.unbroken).1)

pub define_along-requires-clause-fit : goal.define_along-requires-clause-fit
define_along-requires-clause-fit c =
    let items = items_view c.args.items.now in
    let whole = structs_in items in
    all_fit whole whole (structs_fine items (unbroken items c.requires.unbroken).1)

pub define_along-requires-clause-partly : goal.define_along-requires-clause-partly
define_along-requires-clause-partly c = partly_named (structs_in (items_view c.args.items.now)) c.name_structs.new.builder.arena c.in_ok-name_structs.ensures.table

pub returns-clause-module : goal.returns-clause-module
returns-clause-module c =
    let whole = structs_in (items_view c.args.items.now) in
    let along = c.define_along.new.builder.arena.table in
    c.in_ok-define_structs.ensures.module
    ∙ ap (λ (m : Module). with_structs m whole) (c.in_ok-define_along.ensures.module ∙ ap (λ (m : Module). with_structs m (structs along)) c.in_ok-name_structs.ensures.module)

pub returns-clause-entries : goal.returns-clause-entries
returns-clause-entries c = c.in_ok-define_structs.ensures.entries ∙ c.in_ok-define_along.ensures.entries ∙ c.in_ok-name_structs.ensures.entries
