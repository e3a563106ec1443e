use Rattle.std.proofs.Common.{inl, inr, Err, ap, ◌∙◌, subst}
use Rattle.std.specs.Prelude.{Contains}
use Rattle.module_arena.specs.Lists.{Lists}
use Rattle.type_table.specs.Types.{names, with_struct}
use Rattle.module_arena.specs.Module.{Bytes}
use Rattle.item_build.proofs.OnTypes.Growing.{grows_not}
use Rattle.item_build.proofs.Partly.{new_structs}
use Rattle.module_linker.proofs.head.naming.name_struct.Goals as goal

pub type_out_of_memory-requires : goal.type_out_of_memory-requires
type_out_of_memory-requires c =
    elim c.in-Err.ensures.fault [
      | inl e ↦ absurd (c.requires.free (subst (λ (n : Bytes). Contains (names c.args.into.now.arena.table) n) c.in_ok-name.ensures (c.in-Err.ensures.duplicate.0 (ap Err e))))
      | inr e ↦ e
    ]

pub returns-in-Ok-clause-table : goal.returns-in-Ok-clause-table
returns-in-Ok-clause-table c = ap (λ (w : Lists). w.table) c.in-Ok.ensures.ok ∙ ap (with_struct c.args.into.now.arena.table) c.in_ok-name.ensures

pub returns-in-Ok-clause-module : goal.returns-in-Ok-clause-module
returns-in-Ok-clause-module c = new_structs c.args.into.now.arena c.args.into.now.arena c.name_struct.new.self _ (grows_not c.args.into.now.arena) c.in-Ok.ensures.module
