use Rattle.std.proofs.Common.{length, sym, subst, ap, ◌∙◌, arith}
use Rattle.type_table.specs.Limits.{IsWithin}
use Rattle.type_table.specs.Types.{Types, structs}
use Rattle.module_arena.specs.View.{module_of}
use Rattle.module_arena.specs.Renamed.{own}
use Rattle.item_build.proofs.OnTypes.Staying.{structs_stay, entries_stay}
use Rattle.item_build.specs.Partly.{with_structs}
use Rattle.item_build.proofs.Partly.{partly_grown}
use Rattle.entry_copy.specs.Tables.{with_types}
use Rattle.entry_copy.proofs.Starting.{own_types_fit}
use Rattle.entry_copy.proofs.OnStructs.StructsDefined.{part_fits}
use Rattle.entry_copy.proofs.structs.defining.copy_type.Goals as goal

pub overflow_add-number : goal.overflow_add-number
overflow_add-number c =
    let many = c.type_count-count.ensures.count ∙ ap (λ (t : Types). length t.types) c.types.ensures in
    let fits = c.type_count-count.type_inv in
    let here = c.number.ensures in
    let below = c.requires.known in
    omega (arith, many, fits, here, below)

pub copy_types-requires-clause-copies : goal.copy_types-requires-clause-copies
copy_types-requires-clause-copies c =
    let a = c.args.from.now in
    let within = subst IsWithin c.types.ensures c.type_count-count.ensures.within in
    let old = c.in_ok-before_type.ensures in
    (own, old.copies, part_fits (structs a.table) a c.before_type.new.into.arena old.partly (own_types_fit a within))

pub returns-clause-module : goal.returns-clause-module
returns-clause-module c =
    let b = c.before_type.new.into.arena in
    let grows = c.in_ok-copy_types.ensures.grows in
    grows.same ∙ c.in_ok-before_type.ensures.module ∙ ap (with_structs (module_of c.args.into.now.arena)) (sym (structs_stay b c.copy_types.new.into.arena grows))

pub returns-clause-entries : goal.returns-clause-entries
returns-clause-entries c = entries_stay c.before_type.new.into.arena c.copy_types.new.into.arena c.in_ok-copy_types.ensures.grows ∙ c.in_ok-before_type.ensures.entries

pub returns-clause-others : goal.returns-clause-others
returns-clause-others c = c.in_ok-copy_types.ensures.others ∙ ap (λ t. with_types t c.copy_types.new.self.types) c.in_ok-before_type.ensures.others

pub returns-clause-partly : goal.returns-clause-partly
returns-clause-partly c =
    let a = c.args.from.now in
    let whole = structs a.table in
    let within = subst IsWithin c.types.ensures c.type_count-count.ensures.within in
    let old = c.in_ok-before_type.ensures in
    let step = c.in_ok-copy_types.ensures in
    partly_grown whole c.before_type.new.into.arena c.copy_types.new.into.arena step.grows (step.within own whole old.copies (own_types_fit a within) old.partly.within) old.partly

pub returns-clause-copies : goal.returns-clause-copies
returns-clause-copies c = c.in_ok-copy_types.ensures.copies own c.in_ok-before_type.ensures.copies
