use Rattle.std.proofs.Common.{subst}
use Rattle.run_decode.specs.declared.flat.action.Action.{Action}
use Rattle.run_decode.specs.Flat.Flat.{IsWithin}
use Rattle.run_acts.specs.Classes.May.{MayAct}
use Rattle.run_acts.proofs.OnClasses.Single.{compared_told, compares_there, compares_told}
use Rattle.run_acts.proofs.classes.scalars.act_on_comparison.Goals as goal

pub told-first-requires : goal.told-first-requires
told-first-requires c =
    let a = c.args in
    let may = subst (λ (x : Action). MayAct c.requires.may.0 a.pools.now x a.stack.now) c.requires.is c.requires.may.1 in
    record { there = (compares_there c.requires.may.0 a.pools.now a.stack.now a.to a.predicate a.samesign a.width a.left a.right may).0; within = (subst (IsWithin a.pools.now) c.requires.is c.requires.may.1.within).0 }

pub told-second-requires : goal.told-second-requires
told-second-requires c =
    let a = c.args in
    let may = subst (λ (x : Action). MayAct c.requires.may.0 a.pools.now x a.stack.now) c.requires.is c.requires.may.1 in
    record { there = (compares_there c.requires.may.0 a.pools.now a.stack.now a.to a.predicate a.samesign a.width a.left a.right may).1; within = (subst (IsWithin a.pools.now) c.requires.is c.requires.may.1.within).1 }

pub compare-requires : goal.compare-requires
compare-requires c =
    let a = c.args in
    let may = subst (λ (x : Action). MayAct c.requires.may.0 a.pools.now x a.stack.now) c.requires.is c.requires.may.1 in
    let k = compares_told c.requires.may.0 a.pools.now a.stack.now a.to a.predicate a.samesign a.width a.left a.right c.told-first.result c.told-second.result c.told-first.ensures c.told-second.ensures may in
    record { on = k.on; place = k.place; width = k.wide; left_there = k.first_there; right_there = k.second_there; operands = k.alike }

pub returns : goal.returns
returns c = λ lists.
    let a = c.args in
    compared_told a.pools.now lists a._action.now a.stack.now c.compare.new.stack a.to a.predicate a.samesign a.width a.left a.right c.told-first.result c.told-second.result c.requires.is c.told-first.ensures c.told-second.ensures
    c.compare.ensures
