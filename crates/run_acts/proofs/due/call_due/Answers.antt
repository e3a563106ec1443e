use Rattle.std.proofs.Common.{sym, subst}
use Rattle.module_arena.specs.View.{module_of}
use Rattle.run_names.specs.Told.{alone}
use Rattle.run_acts.specs.declared.due.DueCall.{DueCall}
use Rattle.run_acts.specs.Dues.{MayBeDue}
use Rattle.run_acts.proofs.FirstCalls.{IsCalledDue, main_counted}
use Rattle.run_acts.proofs.due.call_due.Goals as goal

pub call_main-requires-clause-main : goal.call_main-requires-clause-main
call_main-requires-clause-main c = subst (MayBeDue (alone (module_of c.args.program.now.lists))) c.in-Main.is c.requires.due

pub call_main-requires-in-MainWith-clause-main : goal.call_main-requires-in-MainWith-clause-main
call_main-requires-in-MainWith-clause-main c = subst (MayBeDue (alone (module_of c.args.program.now.lists))) c.in-MainWith.is c.requires.due

pub returns-in-Constructor-clause-called : goal.returns-in-Constructor-clause-called
returns-in-Constructor-clause-called c =
    let r = c.call_constructor in
    subst (λ (d : DueCall). IsCalledDue (alone (module_of c.args.program.now.lists)) d r.new.stack r.result) (sym c.in-Constructor.is) r.ensures.called

pub returns-in-Main-clause-called : goal.returns-in-Main-clause-called
returns-in-Main-clause-called c =
    let r = c.call_main in
    subst (λ (d : DueCall). IsCalledDue (alone (module_of c.args.program.now.lists)) d r.new.stack r.result) (sym c.in-Main.is) r.ensures.called

pub returns-in-MainWith-clause-called : goal.returns-in-MainWith-clause-called
returns-in-MainWith-clause-called c =
    let r = c.call_main-in-MainWith in
    let d = c.in-MainWith in
    subst (λ (d : DueCall). IsCalledDue (alone (module_of c.args.program.now.lists)) d r.new.stack r.result) (sym d.is)
    (main_counted (alone (module_of c.args.program.now.lists)) d.address d.count c.from.result d.array r.new.stack r.result c.from.ensures r.ensures.called)
