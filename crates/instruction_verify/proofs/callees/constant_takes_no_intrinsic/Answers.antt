use Rattle.std.proofs.Common.{◌||◌, Some, sym, ap, ◌∙◌}
use Rattle.type_table.specs.Tree.{ptr}
use Rattle.module_arena.specs.EntryRules.{takes_no_intrinsic}
use Rattle.module_arena.specs.InstructionRules.{callee_takes_no_intrinsic}
use Rattle.module_arena.specs.Module.Value.{Known}
use Rattle.module_arena.specs.View.{module_of}
use Rattle.instruction_verify.specs.Parts.{is_address}
use Rattle.instruction_verify.proofs.CalleesTold.{called_constant}
use Rattle.instruction_verify.proofs.callees.constant_takes_no_intrinsic.Goals as goal

pub returns : goal.returns
returns c =
    let a = c.args.judge.now in
    (λ j. c.is_address.ensures j || c.takes_no_intrinsic.ensures ptr j)
    ∙ ap (λ k. is_address c.constant.result.now || takes_no_intrinsic (module_of a) ptr k) c.constant.ensures
    ∙ called_constant (module_of a) a c.constant.result.now
    ∙ ap (λ k. callee_takes_no_intrinsic (module_of a) (Some (Known k))) (sym c.constant.ensures)
