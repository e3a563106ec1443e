use Rattle.std.proofs.Common.{◌≡◌, Some, slice_get, ◌∙◌, subst}
use Rattle.module_linker.proofs.OnIds.Stays.{constants_stay, types_stay}
use Rattle.module_linker.proofs.making.copy_entries.Goals as goal

pub set_new_ids-requires-clause-one_each : goal.set_new_ids-requires-clause-one_each
set_new_ids-requires-clause-one_each c = c.requires.types.count

pub copy_constants-requires-clause-types : goal.copy_constants-requires-clause-types
copy_constants-requires-clause-types c =
    types_stay c.args.parts.now c.args.into.now.arena c.args.copiers.now c.set_new_ids.new.copiers c.in_ok-set_new_ids.ensures.others c.requires.types

pub copy_constants-requires-clause-ids : goal.copy_constants-requires-clause-ids
copy_constants-requires-clause-ids c = c.in_ok-set_new_ids.ensures.ids c.args.into.now.arena c.requires.declared

pub copy_constants-requires-clause-none : goal.copy_constants-requires-clause-none
copy_constants-requires-clause-none c = constants_stay c.args.copiers.now c.set_new_ids.new.copiers c.in_ok-set_new_ids.ensures.others c.requires.none

pub returns-clause-module : goal.returns-clause-module
returns-clause-module c = c.in_ok-copy_constants.ensures.grows.same ∙ c.requires.declared

pub returns-clause-untargeted : goal.returns-clause-untargeted
returns-clause-untargeted c = λ id x le at.
    c.requires.untargeted id x le (subst (λ l. slice_get l id ≡ Some x) c.in_ok-copy_constants.ensures.grows.aliases at)
