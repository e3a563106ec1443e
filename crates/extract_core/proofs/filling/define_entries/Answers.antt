use Rattle.std.proofs.Common.{◌≡◌, Some, slice_get, subst, ◌∙◌}
use Rattle.module_arena.specs.View.{module_of}
use Rattle.extract_core.proofs.OnDeclaring.NewIds.{keeps_on}
use Rattle.extract_core.proofs.NewIds.{new_ids_stay}
use Rattle.extract_core.proofs.Parts.{variables_behind, functions_behind, variables_begin, functions_begin_then, aliases_declared, part_made}
use Rattle.extract_core.proofs.filling.define_entries.Goals as goal

pub initialise_variables-requires-clause-sizes : goal.initialise_variables-requires-clause-sizes
initialise_variables-requires-clause-sizes c = c.requires.sizes.variables

pub initialise_variables-requires-clause-declared : goal.initialise_variables-requires-clause-declared
initialise_variables-requires-clause-declared c =
    let M = module_of c.args.from.now in
    (variables_behind M c.args.fates.now, variables_begin M c.args.fates.now (module_of c.args.into.now.arena) c.requires.declared)

pub initialise_variables-requires-clause-names : goal.initialise_variables-requires-clause-names
initialise_variables-requires-clause-names c = c.requires.names.variables

pub define_functions-requires-clause-sizes : goal.define_functions-requires-clause-sizes
define_functions-requires-clause-sizes c = c.requires.sizes.functions

pub define_functions-requires-clause-declared : goal.define_functions-requires-clause-declared
define_functions-requires-clause-declared c =
    let M = module_of c.args.from.now in
    let fates = c.args.fates.now in
    let m = module_of c.args.into.now.arena in
    let m1 = module_of c.initialise_variables.new.into.arena in
    let one = c.in_ok-initialise_variables.ensures.module (variables_behind M fates) (variables_begin M fates m c.requires.declared) in
    (functions_behind M fates, functions_begin_then M fates m c.requires.declared m1 one)

pub define_functions-requires-clause-copies : goal.define_functions-requires-clause-copies
define_functions-requires-clause-copies c = c.in_ok-initialise_variables.ensures.keeps.copies c.args.from.now c.args.copier.now c.requires.copies

pub define_functions-requires-clause-names : goal.define_functions-requires-clause-names
define_functions-requires-clause-names c = c.requires.names.functions

pub target_aliases-requires-clause-sizes : goal.target_aliases-requires-clause-sizes
target_aliases-requires-clause-sizes c = c.requires.sizes.aliases

pub target_aliases-requires-clause-declared : goal.target_aliases-requires-clause-declared
target_aliases-requires-clause-declared c =
    let M = module_of c.args.from.now in
    let fates = c.args.fates.now in
    let m = module_of c.args.into.now.arena in
    let m1 = module_of c.initialise_variables.new.into.arena in
    let m2 = module_of c.define_functions.new.into.arena in
    let one = c.in_ok-initialise_variables.ensures.module (variables_behind M fates) (variables_begin M fates m c.requires.declared) in
    let two = c.in_ok-define_functions.ensures.module (functions_behind M fates) (functions_begin_then M fates m c.requires.declared m1 one) in
    aliases_declared M fates m c.requires.declared m1 one m2 two

pub target_aliases-requires-clause-untargeted : goal.target_aliases-requires-clause-untargeted
target_aliases-requires-clause-untargeted c =
    let same = c.in_ok-define_functions.ensures.keeps.aliases ∙ c.in_ok-initialise_variables.ensures.keeps.aliases in
    λ id x le at. c.requires.untargeted id x le (subst (λ l. slice_get l id ≡ Some x) same at)

pub target_aliases-requires-clause-ids : goal.target_aliases-requires-clause-ids
target_aliases-requires-clause-ids c =
    let b = c.args.into.now.arena in
    let b1 = c.initialise_variables.new.into.arena in
    let b2 = c.define_functions.new.into.arena in
    (c.args.fates.now, new_ids_stay c.args.from.now c.args.fates.now b b2 c.args.copier.now (keeps_on b b1 b2 c.in_ok-initialise_variables.ensures.keeps.names c.in_ok-define_functions.ensures.keeps.names) c.requires.ids)

pub target_aliases-requires-clause-targets : goal.target_aliases-requires-clause-targets
target_aliases-requires-clause-targets c = c.requires.names.targets

pub returns : goal.returns
returns c =
    let M = module_of c.args.from.now in
    let fates = c.args.fates.now in
    let m = module_of c.args.into.now.arena in
    let m1 = module_of c.initialise_variables.new.into.arena in
    let m2 = module_of c.define_functions.new.into.arena in
    let m3 = module_of c.target_aliases.new.into.arena in
    let one = c.in_ok-initialise_variables.ensures.module (variables_behind M fates) (variables_begin M fates m c.requires.declared) in
    let two = c.in_ok-define_functions.ensures.module (functions_behind M fates) (functions_begin_then M fates m c.requires.declared m1 one) in
    part_made M fates m c.requires.declared m1 one m2 two m3 c.target_aliases.ensures
