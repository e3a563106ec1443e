use Rattle.std.proofs.Common.{sym, subst, ap, ◌∙◌}
use Rattle.module_arena.specs.Functions.{variable_names, function_names}
use Rattle.module_arena.specs.View.{module_of}
use Rattle.entry_copy.specs.Tables.{Tables, with_entries}
use Rattle.entry_copy.proofs.Starting.{no_constants_copied}
use Rattle.extract_core.specs.Declaring.Stages.{HasTypes, same_name}
use Rattle.extract_core.specs.Entries.NewIds.{HaveNewIds}
use Rattle.extract_core.proofs.OnDeclaring.NewIds.{ids_stay}
use Rattle.extract_core.proofs.OnEntries.NewIds.{entries_named}
use Rattle.extract_core.proofs.OnEntries.Grounded.{nothing_declared, types_with_entries, all_declared}
use Rattle.extract_core.proofs.entries.declaring.declare_entries.Goals as goal

pub declare_variables-requires-clause-sizes : goal.declare_variables-requires-clause-sizes
declare_variables-requires-clause-sizes c = c.requires.sizes.variables

pub declare_variables-requires-clause-declaring : goal.declare_variables-requires-clause-declaring
declare_variables-requires-clause-declaring c = nothing_declared c.args.from.now c.args.into.now.arena c.requires.empty

pub declare_functions-requires-clause-sizes : goal.declare_functions-requires-clause-sizes
declare_functions-requires-clause-sizes c = c.requires.sizes.functions

pub declare_aliases-requires-clause-sizes : goal.declare_aliases-requires-clause-sizes
declare_aliases-requires-clause-sizes c = c.requires.sizes.aliases

pub returns-clause-module : goal.returns-clause-module
returns-clause-module c =
    all_declared (module_of c.args.from.now) (module_of c.args.into.now.arena) (module_of c.declare_variables.new.into.arena) (module_of c.declare_functions.new.into.arena) (module_of c.declare_aliases.new.into.arena) c.args.fates.now
    c.requires.ground c.in_ok-variables.ensures.module c.in_ok-functions.ensures.module c.in_ok-aliases.ensures.joined

pub returns-clause-types : goal.returns-clause-types
returns-clause-types c =
    let a = c.args.from.now in
    let new = c.declare_aliases.new.into.arena in
    subst (HasTypes a new) (sym c.set_entries.ensures)
    (types_with_entries a new c.args.copier.now c.in_ok-variables.variables.items c.in_ok-functions.functions.items c.in_ok-aliases.aliases.items c.in_ok-aliases.ensures.types)

pub returns-clause-ids : goal.returns-clause-ids
returns-clause-ids c =
    let a = c.args.from.now in
    let fates = c.args.fates.now in
    let one = c.declare_variables.new.into.arena in
    let two = c.declare_functions.new.into.arena in
    let new = c.declare_aliases.new.into.arena in
    let vs = c.in_ok-variables.variables.items in
    let fs = c.in_ok-functions.functions.items in
    let t : Tables = with_entries c.args.copier.now vs fs c.in_ok-aliases.aliases.items in
    let ids : HaveNewIds a fates new t = record {
      variables = ids_stay two new c.in_ok-aliases.ensures.keeps (variable_names (module_of a)) fates.variables vs (ids_stay one two c.in_ok-functions.ensures.keeps (variable_names (module_of a)) fates.variables vs c.in_ok-variables.ensures.ids);
      functions = ids_stay two new c.in_ok-aliases.ensures.keeps (function_names (module_of a)) fates.functions fs c.in_ok-functions.ensures.ids;
      aliases = c.in_ok-aliases.ensures.called;
    } in
    subst (HaveNewIds a fates new) (sym c.set_entries.ensures) ids

pub returns-clause-constants : goal.returns-clause-constants
returns-clause-constants c =
    let a = c.args.from.now in
    let new = c.declare_aliases.new.into.arena in
    let t = c.set_entries.new.self in
    no_constants_copied same_name same_name a new t (ap (λ (x : Tables). x.constants) c.set_entries.ensures ∙ c.requires.no_constants)
    (entries_named a c.args.fates.now new t (returns-clause-ids c))

pub returns-clause-untargeted : goal.returns-clause-untargeted
returns-clause-untargeted c = c.in_ok-aliases.ensures.declaring.untargeted
