use Rattle.std.proofs.Common.{sym, ap, ◌∙◌}
use Rattle.std.specs.Prelude.{is_some}
use Rattle.type_table.specs.Types.{trees}
use Rattle.module_arena.specs.Lists.{name_at}
use Rattle.module_arena.specs.View.{constants_of}
use Rattle.module_arena.proofs.ConstantsTold.{constant_here}
use Rattle.entry_verify.proofs.OnConstants.PartsTold.{number_written}
use Rattle.entry_verify.specs.Entries.Constructors.{is_number}
use Rattle.entry_verify.proofs.entries.llvm_lists.is_number.Goals as goal

pub returns : goal.returns
returns c =
    let a = c.args.arena.now in
    c.is_some.ensures
    ∙ ap is_some (c.written_number.ensures ∙ sym (number_written (trees a.table) (name_at a) (constants_of a) c.constant.result.now))
    ∙ sym (ap is_number (constant_here a c.variable_count-count.ensures.good c.args.id c.constant.result.now c.constant.ensures))
