use Rattle.std.proofs.Common.{◌≡◌, length, sym, subst, ap, ◌∙◌, arith}
use Rattle.type_table.specs.Limits.{IsWithin}
use Rattle.type_table.specs.Types.{Types, structs}
use Rattle.module_arena.specs.View.{module_of}
use Rattle.module_arena.specs.Renamed.{own}
use Rattle.item_build.proofs.OnTypes.Staying.{structs_stay, entries_stay}
use Rattle.entry_copy.specs.Copies.{AllFit}
use Rattle.entry_copy.specs.Tables.{with_types}
use Rattle.entry_copy.proofs.Starting.{own_types_fit}
use Rattle.extract_core.proofs.OnEntries.Grounded.{ground_there}
use Rattle.extract_core.proofs.entries.declaring.copy_ground.Goals as goal

pub copy_types-requires-clause-known : goal.copy_types-requires-clause-known
copy_types-requires-clause-known c =
    let e = c.type_count-count.ensures.count in
    let f : length c.types.result.now.types ≡ length c.args.from.now.table.types = ap (λ (t : Types). length t.types) c.types.ensures in
    omega (arith, e, f)

pub copy_types-requires-clause-copies : goal.copy_types-requires-clause-copies
copy_types-requires-clause-copies c =
    let a = c.args.from.now in
    (own, c.in_ok-copy_structs.ensures.copies, subst (λ ss. AllFit own ss a) (sym c.in_ok-copy_structs.ensures.structs) (own_types_fit a (subst IsWithin c.types.ensures c.type_count-count.ensures.within)))

pub returns-clause-module : goal.returns-clause-module
returns-clause-module c =
    let a = c.args.from.now in
    c.in_ok-copy_types.ensures.grows.same ∙ c.in_ok-copy_structs.ensures.module ∙ ground_there a (module_of c.copy_texts.new.into.arena) c.in_ok-copy_texts.ensures.module

pub returns-clause-types : goal.returns-clause-types
returns-clause-types c =
    let a = c.args.from.now in
    let b = c.copy_structs.new.into.arena in
    let grows = c.in_ok-copy_types.ensures.grows in
    let e = c.type_count-count.ensures.count in
    let f : length c.types.result.now.types ≡ length a.table.types = ap (λ (t : Types). length t.types) c.types.ensures in
    let few = c.in_ok-copy_structs.ensures.copies.few_types in
    let many = c.in_ok-copy_types.ensures.count in
    record {
      structs = structs_stay b c.copy_types.new.into.arena grows ∙ c.in_ok-copy_structs.ensures.structs;
      copies = c.in_ok-copy_types.ensures.copies own c.in_ok-copy_structs.ensures.copies;
      all = omega (arith, e, f, few, many);
    }

pub returns-clause-entries : goal.returns-clause-entries
returns-clause-entries c = entries_stay c.copy_structs.new.into.arena c.copy_types.new.into.arena c.in_ok-copy_types.ensures.grows ∙ c.in_ok-copy_structs.ensures.entries ∙ c.in_ok-copy_texts.ensures.entries

pub returns-clause-others : goal.returns-clause-others
returns-clause-others c = c.in_ok-copy_types.ensures.others ∙ ap (λ t. with_types t c.copy_types.new.self.types) c.in_ok-copy_structs.ensures.others
