use Rattle.std.proofs.Common.{inl, inr, Err, Some, slice_get, sym, subst, ap, ◌∙◌}
use Rattle.std.specs.Prelude.{Contains}
use Rattle.type_table.specs.Types.{Types, IsGood, names, with_struct}
use Rattle.module_arena.specs.Lists.{Lists}
use Rattle.item_build.proofs.OnTypes.Growing.{grows_not}
use Rattle.item_build.proofs.Partly.{new_structs}
use Rattle.entry_copy.proofs.OnStructs.StructsNamed.{is_new, one_more}
use Rattle.entry_copy.proofs.structs.naming.name_struct.Goals as goal

pub type_out_of_memory-requires : goal.type_out_of_memory-requires
type_out_of_memory-requires c =
    let good = subst IsGood c.types.ensures c.type_count-good.ensures.good in
    let at = (λ j. slice_get (names ((sym c.types-2.ensures) j)) c.args.id) ∙ c.struct_name.ensures ∙ ap Some (sym c.in_ok-name.ensures) in
    elim c.in-Err.ensures.fault [
      | inl e ↦ absurd (is_new c.args.from.now.table good c.args.id c.in_ok-name.name at
          (subst (λ (t : Types). Contains (names t) c.in_ok-name.name) c.requires.next (c.in-Err.ensures.duplicate.0 (ap Err e))))
      | inr e ↦ e
    ]

pub returns-in-Ok-clause-table : goal.returns-in-Ok-clause-table
returns-in-Ok-clause-table c =
    let at = (λ j. slice_get (names ((sym c.types-2.ensures) j)) c.args.id) ∙ c.struct_name.ensures ∙ ap Some (sym c.in_ok-name.ensures) in
    ap (λ (w : Lists). w.table) c.in-Ok.ensures.ok ∙ ap (λ (t : Types). with_struct t c.in_ok-name.name) c.requires.next ∙ one_more c.args.from.now.table c.args.id c.in_ok-name.name at

pub returns-in-Ok-clause-module : goal.returns-in-Ok-clause-module
returns-in-Ok-clause-module c = new_structs c.args.into.now.arena c.args.into.now.arena c.name_struct.new.self _ (grows_not c.args.into.now.arena) c.in-Ok.ensures.module
