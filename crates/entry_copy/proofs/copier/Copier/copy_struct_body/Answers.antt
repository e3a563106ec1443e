use Rattle.std.proofs.Common.{Some}
use Rattle.type_table.specs.Types.{trees, tree_body}
use Rattle.module_arena.specs.Renamed.{renamed_body}
use Rattle.entry_copy.specs.Copies.{IsStructBody}
use Rattle.entry_copy.specs.Moved.{moved_struct_body}
use Rattle.entry_copy.proofs.TypesCopied.{with_answer, struct_body_copied}
use Rattle.entry_copy.proofs.copier.Copier.copy_struct_body.Goals as goal

pub returns-clause-is : goal.returns-clause-is
returns-clause-is c structs a b h k =
    with_answer (λ copy. IsStructBody b copy (renamed_body structs (tree_body (trees a.table) (Some c.args.body.now))))
    c.moved.result (moved_struct_body c.args.self.now c.args.body.now) (struct_body_copied structs a b c.args.self.now h c.args.body.now k) c.moved.ensures
