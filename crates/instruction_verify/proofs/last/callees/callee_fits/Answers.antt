use Rattle.std.proofs.Common.{◌∙◌, ap, sym}
use Rattle.type_table.specs.Types.{trees, structs}
use Rattle.module_arena.specs.declared.instruction.Value as the_value
use Rattle.module_arena.specs.View.{constants_of, value_view}
use Rattle.module_arena.specs.ValueRules as values
use Rattle.std.proofs.Common.{Option}
use Rattle.std.specs.Option.{option_map}
use Rattle.instruction_verify.proofs.last.callees.callee_fits.Goals as goal

pub returns-in-Some : goal.returns-in-Some
returns-in-Some c vs bs =
    let a = c.args.judge.now in
    c.pointer_fits.ensures vs bs ∙ ap (λ (o : Option the_value.Value). values.callee_fits (structs a.table) (option_map (value_view (trees a.table) (constants_of a) vs bs) o)) (sym c.in-Some.is)
