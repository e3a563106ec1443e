use Rattle.std.proofs.Common.{Some, sym, ap, ◌∙◌}
use Rattle.module_arena.specs.InstructionRules.{callee_takes_no_intrinsic}
use Rattle.module_arena.specs.View.{module_of}
use Rattle.instruction_verify.specs.ArenaOperands.{value_in}
use Rattle.instruction_verify.proofs.callees.called_takes_no_intrinsic.Goals as goal

pub returns-in-Known : goal.returns-in-Known
returns-in-Known c values blocks =
    let a = c.args.judge.now in
    c.constant_takes_no_intrinsic.ensures ∙ ap (λ v. callee_takes_no_intrinsic (module_of a) (Some (value_in a values blocks v))) (sym c.in-Known.is)

pub returns-in-Local : goal.returns-in-Local
returns-in-Local c values blocks =
    let a = c.args.judge.now in
    ap (λ v. callee_takes_no_intrinsic (module_of a) (Some (value_in a values blocks v))) (sym c.in-Local.is)
