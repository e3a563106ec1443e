use Rattle.std.proofs.Common.{IfOk, List, sym, subst}
use Rattle.module_arena.specs.declared.instruction.Case.{Case}
use Rattle.module_arena.specs.declared.instruction.Ending.{Ending}
use Rattle.module_arena.specs.declared.instruction.Ending.TheVariants as ending
use Rattle.run_decode.specs.Operands.Endings.{EndMeant}
use Rattle.run_decode.specs.Operands.Suits.{EndSuits, HasSwitch}
use Rattle.run_decode.proofs.operands.endings.put_ending.Goals as goal

pub put_return-requires : goal.put_return-requires
put_return-requires c = subst (EndSuits c.args.scope.now) c.in-Return.is c.requires.end

pub put_jump-requires-clause-to : goal.put_jump-requires-clause-to
put_jump-requires-clause-to c = subst (EndSuits c.args.scope.now) c.in-Jump.is c.requires.end

pub put_branch-requires-clause-branch : goal.put_branch-requires-clause-branch
put_branch-requires-clause-branch c = subst (EndSuits c.args.scope.now) c.in-Branch.is c.requires.end

pub put_switch-requires-clause-switch : goal.put_switch-requires-clause-switch
put_switch-requires-clause-switch c =
    let given = subst (EndSuits c.args.scope.now) c.in-Switch.is c.requires.end in
    subst (HasSwitch c.args.scope.now c.in-Switch.value c.in-Switch.otherwise) (sym c.as_slice.ensures) given

pub returns-in-Return-clause-action : goal.returns-in-Return-clause-action
returns-in-Return-clause-action c = subst (λ (e : Ending). IfOk c.put_return.result (EndMeant c.args.scope.now c.put_return.new.pools c.args.from e)) (sym c.in-Return.is) c.put_return.ensures.action

pub returns-in-Jump-clause-action : goal.returns-in-Jump-clause-action
returns-in-Jump-clause-action c = subst (λ (e : Ending). IfOk c.put_jump.result (EndMeant c.args.scope.now c.put_jump.new.pools c.args.from e)) (sym c.in-Jump.is) c.put_jump.ensures.action

pub returns-in-Branch-clause-action : goal.returns-in-Branch-clause-action
returns-in-Branch-clause-action c = subst (λ (e : Ending). IfOk c.put_branch.result (EndMeant c.args.scope.now c.put_branch.new.pools c.args.from e)) (sym c.in-Branch.is) c.put_branch.ensures.action

pub returns-in-Switch-clause-action : goal.returns-in-Switch-clause-action
returns-in-Switch-clause-action c =
    let meant = subst (λ (cs : List Case). IfOk c.put_switch.result (EndMeant c.args.scope.now c.put_switch.new.pools c.args.from (ending.Switch c.in-Switch.value c.in-Switch.otherwise cs))) c.as_slice.ensures c.put_switch.ensures.action in
    subst (λ (e : Ending). IfOk c.put_switch.result (EndMeant c.args.scope.now c.put_switch.new.pools c.args.from e)) (sym c.in-Switch.is) meant
