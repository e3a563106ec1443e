use Rattle.type_table.specs.Types.{trees}
use Rattle.module_arena.specs.Renamed.{renamed_alias_type}
use Rattle.module_arena.specs.View.{alias_type_view}
use Rattle.entry_copy.specs.Copies.{IsAliasType}
use Rattle.entry_copy.specs.Moved.{moved_alias_type}
use Rattle.entry_copy.proofs.TypesCopied.{with_answer, alias_type_copied}
use Rattle.entry_copy.proofs.copier.Copier.copy_alias_type.Goals as goal

pub returns-clause-is : goal.returns-clause-is
returns-clause-is c structs a b h k =
    with_answer (λ copy. IsAliasType b copy (renamed_alias_type structs (alias_type_view (trees a.table) c.args.ty.now)))
    c.moved.result (moved_alias_type c.args.self.now c.args.ty.now) (alias_type_copied structs a b c.args.self.now h c.args.ty.now k) c.moved.ensures
