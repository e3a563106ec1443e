use Rattle.std.proofs.Common.{[], ap, sym}
use Rattle.ir_tables.specs.declared.undefined_kind.UndefinedKind.TheVariants.{NoFunction}
use Rattle.module_arena.specs.View.{module_of}
use Rattle.run_actions.specs.Carried.{core_of}
use Rattle.run_names.specs.declared.callee.CalleeRef.TheVariants as callees
use Rattle.run_names.specs.Told.{alone, callee_seen}
use Rattle.run_acts.specs.declared.next.Next.{Next}
use Rattle.run_acts.specs.declared.next.Stop.TheVariants as stops
use Rattle.run_acts.specs.Said.{next_of}
use Rattle.run_acts.proofs.Entering.{ended_gets_none}
use Rattle.run_acts.proofs.FirstCalls.{constructor_answered, constructor_at}
use Rattle.run_acts.proofs.Readiness.{keeps_none}
use Rattle.run_acts.proofs.due.call_constructor.Goals as goal

pub returns-in-Code-clause-called : goal.returns-in-Code-clause-called
returns-in-Code-clause-called c =
    let modules = alone (module_of c.args.program.now.lists) in
    let r = c.enter_constructor in
    constructor_at modules c.args.address (callee_seen modules (callees.Code c.in-Code.id)) r.new.stack r.result c.in-Code.ensures.value r.ensures.called

pub returns-in-Host-clause-called : goal.returns-in-Host-clause-called
returns-in-Host-clause-called c =
    let modules = alone (module_of c.args.program.now.lists) in
    let r = c.call_host_constructor in
    constructor_answered modules c.args.address (callee_seen modules (callees.Host c.in-Host.row)) c.args.stack.now.frames r.result c.requires.idle c.in-Host.ensures.value r.ensures.called

pub returns-in-Host-clause-ready : goal.returns-in-Host-clause-ready
returns-in-Host-clause-ready c = λ h. h

pub returns-in-Host-clause-keeps : goal.returns-in-Host-clause-keeps
returns-in-Host-clause-keeps c = keeps_none c.args.program.now

pub returns-in-Nothing-clause-called : goal.returns-in-Nothing-clause-called
returns-in-Nothing-clause-called c =
    let modules = alone (module_of c.args.program.now.lists) in
    constructor_answered modules c.args.address (callee_seen modules callees.Nothing) c.args.stack.now.frames c.fails.result c.requires.idle c.in-Nothing.ensures.value
    (λ due m. ap (λ (n : Next). next_of n (core_of [] due m) []) (sym c.fails.ensures))

pub returns-in-Nothing-clause-no_byte : goal.returns-in-Nothing-clause-no_byte
returns-in-Nothing-clause-no_byte c = ended_gets_none c.fails.result (stops.Undefined NoFunction) c.fails.ensures

pub returns-in-Nothing-clause-ready : goal.returns-in-Nothing-clause-ready
returns-in-Nothing-clause-ready c = λ h. h

pub returns-in-Nothing-clause-keeps : goal.returns-in-Nothing-clause-keeps
returns-in-Nothing-clause-keeps c = keeps_none c.args.program.now
