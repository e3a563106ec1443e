use Rattle.std.proofs.Common.{sym, ap, ◌∙◌}
use Rattle.type_table.specs.Types.{trees}
use Rattle.entry_verify.proofs.OnConstants.PartsTold.{number_written}
use Rattle.module_arena.specs.Constants.{written_number}
use Rattle.module_arena.specs.Lists.{name_at}
use Rattle.module_arena.specs.View.{constants_of}
use Rattle.instruction_verify.proofs.endings.number_of.Goals as goal

pub returns : goal.returns
returns c =
    let a = c.args.judge.now in
    c.written_number.ensures ∙ sym (number_written (trees a.table) (name_at a) (constants_of a) c.constant.result.now) ∙ ap written_number (sym c.constant.ensures)
