use Rattle.std.proofs.Common.{[], sym, subst, ap, ◌∙◌}
use Rattle.type_table.specs.Types.{structs, names}
use Rattle.module_arena.specs.Renamed.{own}
use Rattle.item_build.proofs.Named.{partly_named}
use Rattle.entry_copy.specs.Copies.{CopiesTypes}
use Rattle.entry_copy.proofs.Starting.{no_types_copied, structs_keep_names}
use Rattle.entry_copy.proofs.OnStructs.StructsNamed.{names_named}
use Rattle.entry_copy.proofs.structs.defining.copy_structs.Goals as goal

pub copy_types-requires-clause-partly : goal.copy_types-requires-clause-partly
copy_types-requires-clause-partly c = partly_named (structs c.args.from.now.table) c.name_structs.new.into.arena c.in_ok-name_structs.ensures.table

pub copy_types-requires-clause-copies : goal.copy_types-requires-clause-copies
copy_types-requires-clause-copies c =
    let a = c.args.from.now in
    let b = c.name_structs.new.into.arena in
    subst (CopiesTypes own a b) (sym c.requires.new)
    (no_types_copied own a b [] (structs_keep_names a b (ap names c.in_ok-name_structs.ensures.table ∙ names_named a.table)))
