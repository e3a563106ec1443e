use Rattle.std.proofs.Common.{List, sym, subst}
use Rattle.run_rules.specs.Action as actions
use Rattle.run_actions.specs.Carried.{IsCarriedOut}
use Rattle.run_actions.specs.Edges.{IsWay}
use Rattle.run_decode.specs.declared.flat.action.Action.{Action}
use Rattle.run_decode.specs.Flat.Flat.{IsWithin}
use Rattle.run_actions.specs.declared.stack.origin.Move.{Move}
use Rattle.run_acts.specs.Classes.May.{MayAct}
use Rattle.run_acts.proofs.OnClasses.Going.{jumped_so, jumps_well}
use Rattle.run_acts.proofs.classes.ways.act_on_jump.Goals as goal

pub way-only_way-requires : goal.way-only_way-requires
way-only_way-requires c = subst (IsWithin c.args.pools.now) c.requires.is c.requires.may.1.within

pub jump-requires : goal.jump-requires
jump-requires c =
    let e = c.way-only_way in
    let p = c.args.pools.now in
    let s = c.args.stack.now in
    let may = subst (λ (x : Action). MayAct c.requires.may.0 p x s) c.requires.is c.requires.may.1 in
    record { running = may.running; way = subst (λ (moves : List Move). IsWay s moves e.result.now) (sym c.items.ensures) (jumps_well c.requires.may.0 p s c.args.edge e.result.now e.ensures.there e.ensures.means may) }

pub returns : goal.returns
returns c = λ lists.
    let a = c.args in
    let e = c.way-only_way in
    subst (λ (x : actions.Action). IsCarriedOut x a.stack.now c.jump.new.stack)
    (jumped_so a.pools.now lists a._action.now a.edge c.items.result.now e.result.now c.requires.is c.items.ensures e.ensures.means) c.jump.ensures
