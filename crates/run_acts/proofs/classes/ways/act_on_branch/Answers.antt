use Rattle.std.proofs.Common.{List, sym, subst}
use Rattle.run_rules.specs.Action as actions
use Rattle.run_actions.specs.Carried.{Acts}
use Rattle.run_actions.specs.Edges.{IsWay}
use Rattle.run_decode.specs.declared.flat.action.Action.{Action}
use Rattle.run_decode.specs.Flat.Flat.{IsWithin}
use Rattle.run_actions.specs.declared.stack.origin.Move.{Move}
use Rattle.run_acts.specs.Classes.May.{MayAct}
use Rattle.run_acts.proofs.OnClasses.Going.{branched_so, branches_well}
use Rattle.run_acts.proofs.classes.ways.act_on_branch.Goals as goal

pub origin-chooses-requires : goal.origin-chooses-requires
origin-chooses-requires c = (subst (IsWithin c.args.pools.now) c.requires.is c.requires.may.1.within).0

pub way-then_way-requires : goal.way-then_way-requires
way-then_way-requires c = (subst (IsWithin c.args.pools.now) c.requires.is c.requires.may.1.within).1

pub way-else_way-requires : goal.way-else_way-requires
way-else_way-requires c = (subst (IsWithin c.args.pools.now) c.requires.is c.requires.may.1.within).2

pub branch-stack-requires : goal.branch-stack-requires
branch-stack-requires c =
    let a = c.args in
    let o = c.origin-chooses in
    let d = c.way-then_way in
    let e = c.way-else_way in
    let p = a.pools.now in
    let s = a.stack.now in
    let may = subst (λ (x : Action). MayAct c.requires.may.0 p x s) c.requires.is c.requires.may.1 in
    let k = branches_well c.requires.may.0 p s a.condition a.then_edge a.else_edge o.result d.result.now e.result.now o.ensures d.ensures.there d.ensures.means e.ensures.there e.ensures.means may in
    let all = sym c.items-moves.ensures in
    record {
      running = k.running;
      there = k.there;
      then_way = subst (λ (moves : List Move). IsWay s moves d.result.now) all k.first_way;
      else_way = subst (λ (moves : List Move). IsWay s moves e.result.now) all k.second_way;
    }

pub returns : goal.returns
returns c = λ lists.
    let a = c.args in
    let o = c.origin-chooses in
    let d = c.way-then_way in
    let e = c.way-else_way in
    subst (λ (x : actions.Action). Acts x c.branch-stack.result a.stack.now c.branch-stack.new.stack)
    (branched_so a.pools.now lists a._action.now a.condition a.then_edge a.else_edge c.items-moves.result.now o.result d.result.now e.result.now c.requires.is c.items-moves.ensures o.ensures d.ensures.means e.ensures.means) c.branch-stack.ensures
