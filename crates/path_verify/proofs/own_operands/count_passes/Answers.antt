use Rattle.std.proofs.Common.{◌&&◌, Option, true, sym, ap, ◌∙◌}
use Rattle.std.specs.List.{list_all}
use Rattle.std.specs.Option.{option_to_list}
use Rattle.module_arena.specs.declared.instruction.Operand.{Operand}
use Rattle.path_verify.specs.Ready.{operand_passes}
use Rattle.path_verify.proofs.own_operands.count_passes.Goals as goal

pub returns-in-Some : goal.returns-in-Some
returns-in-Some c passes =
    let a = c.args.judge.now in
    let here = sym c.operand_passes.ensures ∙ passes in
    ap (λ (o : Option Operand). list_all (operand_passes a.table c.args.value_types.now c.args.given) (option_to_list o)) c.in-Some.is
    ∙ (λ j. here j && true)
