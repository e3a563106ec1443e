use Rattle.std.proofs.Common.{◌≡◌, Some, slice_get, subst, ap, ◌∙◌}
use Rattle.module_arena.specs.View.{module_of}
use Rattle.module_arena.specs.Renamed.{own}
use Rattle.entry_copy.specs.Tables.{Tables}
use Rattle.extract_core.proofs.OnFates.ByFates.{fates_sized}
use Rattle.extract_core.proofs.OnDeclaring.StaysDeclared.{grown_keeps}
use Rattle.extract_core.proofs.NewIds.{new_ids_stay}
use Rattle.extract_core.proofs.Parts.{names_there, more_constants_ids}
use Rattle.extract_core.proofs.extracting.fill_part.Goals as goal

pub declare_entries-requires-clause-sizes : goal.declare_entries-requires-clause-sizes
declare_entries-requires-clause-sizes c = fates_sized c.args.from.now c.requires.fates.0 c.args.fates.now c.requires.fates.1

pub declare_entries-requires-clause-no_constants : goal.declare_entries-requires-clause-no_constants
declare_entries-requires-clause-no_constants c =
    ap (λ (t : Tables). t.constants) c.in_ok-copy_ground.ensures.others ∙ ap (λ (t : Tables). t.constants) c.requires.new

pub copy_constants-requires-clause-all_types : goal.copy_constants-requires-clause-all_types
copy_constants-requires-clause-all_types c = c.in_ok-declare_entries.ensures.types.all

pub copy_constants-requires-clause-copies : goal.copy_constants-requires-clause-copies
copy_constants-requires-clause-copies c = (own, own, c.in_ok-declare_entries.ensures.types.copies, c.in_ok-declare_entries.ensures.constants)

pub define_entries-requires-clause-sizes : goal.define_entries-requires-clause-sizes
define_entries-requires-clause-sizes c = fates_sized c.args.from.now c.requires.fates.0 c.args.fates.now c.requires.fates.1

pub define_entries-requires-clause-declared : goal.define_entries-requires-clause-declared
define_entries-requires-clause-declared c = c.in_ok-copy_constants.ensures.grows.same ∙ c.in_ok-declare_entries.ensures.module

pub define_entries-requires-clause-untargeted : goal.define_entries-requires-clause-untargeted
define_entries-requires-clause-untargeted c = λ id x le at.
    c.in_ok-declare_entries.ensures.untargeted id x le (subst (λ l. slice_get l id ≡ Some x) c.in_ok-copy_constants.ensures.grows.aliases at)

pub define_entries-requires-clause-copies : goal.define_entries-requires-clause-copies
define_entries-requires-clause-copies c = c.in_ok-copy_constants.ensures.copies own own c.in_ok-declare_entries.ensures.types.copies c.in_ok-declare_entries.ensures.constants

pub define_entries-requires-clause-ids : goal.define_entries-requires-clause-ids
define_entries-requires-clause-ids c =
    let b1 = c.declare_entries.new.into.arena in
    let b2 = c.copy_constants.new.into.arena in
    let t1 = c.declare_entries.new.copier in
    let t2 = c.copy_constants.new.self in
    let grows = c.in_ok-copy_constants.ensures.grows in
    new_ids_stay c.args.from.now c.args.fates.now b1 b2 t2 (grown_keeps b1 b2 grows) (more_constants_ids c.args.from.now c.args.fates.now b1 t1 t2 c.in_ok-copy_constants.ensures.others c.in_ok-declare_entries.ensures.ids)

pub define_entries-requires-clause-names : goal.define_entries-requires-clause-names
define_entries-requires-clause-names c =
    let good = c.variable_count-good.ensures in
    names_there c.args.from.now c.requires.fates.0 c.requires.well_formed c.requires.valid good.distinct good.good c.args.fates.now c.requires.fates.1
    c.copy_constants.new.into.arena c.copy_constants.new.self (define_entries-requires-clause-ids c)

pub returns : goal.returns
returns c = λ s are. c.in_ok-define_entries.ensures ∙ c.fates_give_the_part.ensures (module_of c.args.from.now) s c.args.fates.now are
