use Rattle.std.proofs.Common.{inl, inr, refl, rules, subst, ap, Err}
use Rattle.std.specs.Prelude.{Contains}
use Rattle.ir_syntax.specs.View.{item_view}
use Rattle.type_table.specs.Types.{names}
use Rattle.item_build.proofs.OnTypes.Growing.{grows_not}
use Rattle.item_build.specs.Named.{IsNewStruct}
use Rattle.item_build.proofs.Partly.{same_structs, new_structs}
use Rattle.item_build.proofs.naming.name_item.Goals as goal

pub type_out_of_memory-requires : goal.type_out_of_memory-requires
type_out_of_memory-requires c =
    let t = c.args.builder.now.arena.table in
    let free = subst (λ i. IsNewStruct t (item_view i)) c.in-Struct.is c.requires.free in
    elim c.in-Err.ensures.fault [
      | inl e ↦ absurd (free (subst (λ n. Contains (names t) n) c.in_ok-name-in-Struct.ensures (c.in-Err.ensures.duplicate.0 (ap Err e))))
      | inr e ↦ e
    ]

pub returns-in-Ok-clause-module : goal.returns-in-Ok-clause-module
returns-in-Ok-clause-module c = new_structs c.args.builder.now.arena c.args.builder.now.arena c.name_struct.new.self _ (grows_not c.args.builder.now.arena) c.in-Ok.ensures.module

pub returns-in_default : goal.returns-in_default
returns-in_default c = record { table = search rules; «module» = same_structs c.args.builder.now.arena; entries = refl }
