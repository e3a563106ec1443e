use Rattle.std.proofs.Common.{ap, ◌∙◌}
use Rattle.ir_syntax.specs.View.{items_view}
use Rattle.module_arena.specs.Lists.{Lists}
use Rattle.module_arena.specs.Module.{Module}
use Rattle.name_rules.specs.ModuleOf.{structs_in}
use Rattle.item_build.specs.Types.Holding.{entries}
use Rattle.item_build.specs.Partly.{with_structs}
use Rattle.ir_resolve.proofs.Whole.{nothing_else}
use Rattle.ir_resolve.proofs.building.begin.Goals as goal

pub build_structs-requires-clause-empty : goal.build_structs-requires-clause-empty
build_structs-requires-clause-empty c =
    c.in_ok-set_texts.ensures.table ∙ ap (λ (a : Lists). a.table) c.requires.nothing

pub returns-clause-module : goal.returns-clause-module
returns-clause-module c =
    let items = items_view c.args.items.now in
    c.in_ok-build_structs.ensures.module
    ∙ ap (λ (m : Module). with_structs m (structs_in items)) c.in_ok-set_texts.ensures.module
    ∙ nothing_else _ items c.requires.nothing

pub returns-clause-empty : goal.returns-clause-empty
returns-clause-empty c =
    c.in_ok-build_structs.ensures.entries
    ∙ c.in_ok-set_texts.ensures.entries
    ∙ ap entries c.requires.nothing
