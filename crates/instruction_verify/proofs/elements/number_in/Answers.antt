use Rattle.std.proofs.Common.{sym, ap, ◌∙◌}
use Rattle.type_table.specs.Types.{trees}
use Rattle.entry_verify.proofs.OnConstants.PartsTold.{number_written}
use Rattle.module_arena.specs.Constants.{written_number}
use Rattle.module_arena.specs.Lists.{name_at}
use Rattle.module_arena.specs.ValueRules.{number_in}
use Rattle.module_arena.specs.View.{constants_of}
use Rattle.instruction_verify.specs.ArenaOperands.{value_in}
use Rattle.instruction_verify.proofs.elements.number_in.Goals as goal

pub returns-in-Known : goal.returns-in-Known
returns-in-Known c values blocks =
    let a = c.args.judge.now in
    c.written_number.ensures
    ∙ sym (number_written (trees a.table) (name_at a) (constants_of a) c.constant.result.now)
    ∙ ap written_number (sym c.constant.ensures)
    ∙ ap (λ v. number_in (value_in a values blocks v)) (sym c.in-Known.is)

pub returns-in-Local : goal.returns-in-Local
returns-in-Local c values blocks = ap (λ v. number_in (value_in c.args.judge.now values blocks v)) (sym c.in-Local.is)
