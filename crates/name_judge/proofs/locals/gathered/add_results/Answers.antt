use Rattle.std.proofs.Common.{arith, sym}
use Rattle.std.proofs.lemmas.List.{take_all}
use Rattle.ir_phrases.specs.Instructions.View.{instruction_view}
use Rattle.name_rules.specs.Locals.{announced_result}
use Rattle.name_judge.proofs.OnLocals.Loops.{flat_more}
use Rattle.name_judge.proofs.OnLocals.Named.{announces_none, announces_both}
use Rattle.name_judge.proofs.locals.gathered.add_results.Goals as goal

pub instructions-init : goal.instructions-init
instructions-init c = announces_none _

pub instructions-preserved : goal.instructions-preserved
instructions-preserved c =
    rw (flat_more announced_result instruction_view c.args.instructions.now c.instructions.instruction-index c.instruction-item.result (omega arith) c.instruction-item.is)
    (announces_both _ _ _ _ _ c.instructions.invariant c.in_ok-add_result.ensures)

pub returns : goal.returns
returns c = rw (sym (take_all c.instructions.instruction-index c.args.instructions.now (omega arith))) c.instructions.invariant
