use Rattle.std.proofs.Common.{All, List, sym, subst}
use Rattle.run_rules.specs.Action as actions
use Rattle.run_actions.specs.Carried.{Acts}
use Rattle.run_actions.specs.declared.edge.SwitchWay.{SwitchWay}
use Rattle.run_actions.specs.Edges.{IsWay}
use Rattle.run_decode.specs.declared.flat.action.Action.{Action}
use Rattle.run_decode.specs.Flat.Flat.{IsWithin}
use Rattle.run_actions.specs.declared.stack.origin.Move.{Move}
use Rattle.run_acts.specs.Classes.May.{MayAct}
use Rattle.run_acts.proofs.OnClasses.Going.{switched_so, switches_well}
use Rattle.run_acts.proofs.classes.ways.act_on_switch.Goals as goal

pub origin-number-requires : goal.origin-number-requires
origin-number-requires c = (subst (IsWithin c.args.pools.now) c.requires.is c.requires.may.1.within).0

pub way-other_way-requires : goal.way-other_way-requires
way-other_way-requires c = (subst (IsWithin c.args.pools.now) c.requires.is c.requires.may.1.within).1

pub in_span-listed-requires : goal.in_span-listed-requires
in_span-listed-requires c = (subst (IsWithin c.args.pools.now) c.requires.is c.requires.may.1.within).2.there

pub switch-requires : goal.switch-requires
switch-requires c =
    let a = c.args in
    let o = c.origin-number in
    let e = c.way-other_way in
    let p = a.pools.now in
    let s = a.stack.now in
    let may = subst (λ (x : Action). MayAct c.requires.may.0 p x s) c.requires.is c.requires.may.1 in
    let k = switches_well c.requires.may.0 p s a.value a.otherwise a.cases o.result e.result.now o.ensures e.ensures.there e.ensures.means may in
    let all = sym c.items.ensures in
    record {
      running = k.running;
      there = k.there;
      other_way = subst (λ (moves : List Move). IsWay s moves e.result.now) all k.other_way;
      case_ways =
          subst (λ (moves : List Move). All (λ (x : SwitchWay). IsWay s moves x.edge) c.in_span-listed.result.now) all
          (subst (All (λ (x : SwitchWay). IsWay s p.moves x.edge)) (sym c.in_span-listed.ensures) k.case_ways);
    }

pub returns : goal.returns
returns c = λ lists.
    let a = c.args in
    let o = c.origin-number in
    let e = c.way-other_way in
    subst (λ (x : actions.Action). Acts x c.switch.result a.stack.now c.switch.new.stack)
    (switched_so a.pools.now lists a._action.now a.value a.otherwise a.cases c.items.result.now o.result e.result.now c.in_span-listed.result.now c.requires.is c.items.ensures o.ensures e.ensures.means c.in_span-listed.ensures) c.switch.ensures
