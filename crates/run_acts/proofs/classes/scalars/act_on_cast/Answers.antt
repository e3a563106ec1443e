use Rattle.std.proofs.Common.{subst}
use Rattle.run_rules.specs.Action as actions
use Rattle.run_actions.specs.Carried.{IsCarriedOut}
use Rattle.run_decode.specs.declared.flat.action.Action.{Action}
use Rattle.run_decode.specs.Flat.Flat.{IsWithin}
use Rattle.run_acts.specs.Classes.May.{MayAct}
use Rattle.run_acts.proofs.OnClasses.Single.{converted_so, convertible}
use Rattle.run_acts.proofs.classes.scalars.act_on_cast.Goals as goal

pub origin-operand-requires : goal.origin-operand-requires
origin-operand-requires c = subst (IsWithin c.args.pools.now) c.requires.is c.requires.may.1.within

pub convert-requires : goal.convert-requires
convert-requires c =
    let a = c.args in
    let may = subst (λ (x : Action). MayAct c.requires.may.0 a.pools.now x a.stack.now) c.requires.is c.requires.may.1 in
    let k = convertible c.requires.may.0 a.pools.now a.stack.now a.to a.opcode a.flags a.from_width a.to_width a.value c.origin-operand.result c.origin-operand.ensures may in
    record { on = k.on; place = k.place; from_width = k.wide; to_width = k.wide_to; there = k.there; cast = k.cast }

pub returns : goal.returns
returns c = λ lists.
    let a = c.args in
    subst (λ (x : actions.Action). IsCarriedOut x a.stack.now c.convert.new.stack)
    (converted_so a.pools.now lists a._action.now a.to a.opcode a.flags a.from_width a.to_width a.value c.origin-operand.result c.requires.is c.origin-operand.ensures) c.convert.ensures
