use Rattle.std.proofs.Common.{map}
use Rattle.type_table.specs.Types.{trees}
use Rattle.module_arena.specs.Renamed.{renamed_parameter}
use Rattle.module_arena.specs.View.{parameter_view}
use Rattle.item_build.specs.Types.Parameters.{AreParameters}
use Rattle.entry_copy.specs.Moved.{moved_parameter}
use Rattle.entry_copy.proofs.TypesCopied.{with_answer, parameters_copied}
use Rattle.entry_copy.proofs.copier.Copier.copy_parameters.Goals as goal

pub returns-clause-are : goal.returns-clause-are
returns-clause-are c structs a b h k =
    with_answer (λ copy. AreParameters b copy (map (renamed_parameter structs) (map (parameter_view (trees a.table)) c.args.parameters.now)))
    c.moved_list.result (map (moved_parameter c.args.self.now) c.args.parameters.now) (parameters_copied structs a b c.args.self.now h c.args.parameters.now k) c.moved_list.ensures
