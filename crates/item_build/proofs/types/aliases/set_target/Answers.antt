use Rattle.std.proofs.Common.{Some, sym, ap, ◌∙◌}
use Rattle.module_arena.specs.Changes.{targeted}
use Rattle.module_arena.specs.View.{module_of}
use Rattle.item_build.proofs.OnTypes.Known.{has_global, is_named}
use Rattle.item_build.proofs.OnTypes.Staying.{entry_named}
use Rattle.item_build.proofs.OnTypes.Untargeted.{untargeted_set}
use Rattle.item_build.proofs.types.aliases.set_target.Goals as goal

pub unreachable-requires : goal.unreachable-requires
unreachable-requires c =
    let g = c.requires.target.0 in
    c.in_default.not-Some g ((c.lookup.ensures g).1 (entry_named c.args.builder.now.arena g ∙ c.requires.target.1 ∙ ap Some (sym c.in_ok-name.ensures)))

pub set_target-requires-clause-target : goal.set_target-requires-clause-target
set_target-requires-clause-target c = has_global c.args.builder.now.arena c.in-Some.target _ ((c.lookup.ensures c.in-Some.target).0 c.in-Some.is)

pub returns-clause-module : goal.returns-clause-module
returns-clause-module c =
    let a = c.args.builder.now.arena in
    let named = (c.lookup.ensures c.in-Some.target).0 c.in-Some.is in
    c.set_target.ensures.module ∙ ap (targeted (module_of a) c.args.id) (is_named a c.in-Some.target _ named ∙ c.in_ok-name.ensures)

pub returns-clause-untargeted : goal.returns-clause-untargeted
returns-clause-untargeted c old = untargeted_set c.args.builder.now.arena c.set_target.new.self c.args.id c.in-Some.target c.set_target.ensures.set old
