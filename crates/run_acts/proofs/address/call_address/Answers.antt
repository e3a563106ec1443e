use Rattle.module_arena.specs.View.{module_of}
use Rattle.run_actions.specs.Carried.{core_of}
use Rattle.run_decode.specs.Flat.Flat.{signature_of}
use Rattle.run_names.specs.declared.callee.CalleeRef.TheVariants as callees
use Rattle.run_names.specs.Told.{alone, callee_seen}
use Rattle.run_rules.specs.Look.{look, table}
use Rattle.typed_runs.specs.Look.Typings.{typing_of}
use Rattle.run_acts.specs.Made.{shapes_of}
use Rattle.run_acts.proofs.AsCallee.{code_called, no_pointer_called, nothing_called, row_called, told_typed}
use Rattle.run_acts.proofs.Readiness.{keeps_none}
use Rattle.run_acts.proofs.address.call_address.Goals as goal

pub returns-in_default-clause-called : goal.returns-in_default-clause-called
returns-in_default-clause-called c = λ body due ready.
    let k = c.args.call.now in
    let p = c.args.program.now in
    no_pointer_called (table (alone (module_of p.lists))) k.callee c.in_default.not-Ptr c.fails.result c.fails.ensures (signature_of body.pools p.lists k.parts) (shapes_of body.pools p.lists k.parts) k.arguments.now k.to
    (core_of c.args.stack.now.frames due c.args.memory.now) c.args.written.now.items

pub returns-in_default-clause-keeps : goal.returns-in_default-clause-keeps
returns-in_default-clause-keeps c = keeps_none c.args.program.now

pub returns-in_default-clause-ready : goal.returns-in_default-clause-ready
returns-in_default-clause-ready c = λ h. h

pub call_code-requires-clause-typed : goal.call_code-requires-clause-typed
call_code-requires-clause-typed c =
    let modules = alone (module_of c.args.program.now.lists) in
    told_typed (typing_of modules) (look modules) (table modules) (callee_seen modules (callees.Code c.in-Code.id)) (table modules c.in-Ptr.pointer.address) c.in-Code.ensures.value (c.requires.typed.callees c.in-Ptr.pointer.address)

pub returns-in-Code-clause-called : goal.returns-in-Code-clause-called
returns-in-Code-clause-called c =
    let modules = alone (module_of c.args.program.now.lists) in
    let k = c.args.call.now in
    let r = c.call_code in
    code_called modules k.callee c.in-Ptr.pointer c.in-Ptr.is (callee_seen modules (callees.Code c.in-Code.id)) c.in-Code.ensures.value c.args.program.now c.args.stack.now r.new.stack k.parts k.to k.arguments.now
    r.result c.args.memory.now c.args.written.now.items c.requires.none r.ensures.called

pub call_row-requires-clause-row : goal.call_row-requires-clause-row
call_row-requires-clause-row c =
    let modules = alone (module_of c.args.program.now.lists) in
    (told_typed (typing_of modules) (look modules) (table modules) (callee_seen modules (callees.Host c.in-Host.row)) (table modules c.in-Ptr.pointer.address) c.in-Host.ensures.value (c.requires.typed.callees c.in-Ptr.pointer.address)).1

pub returns-in-Host-clause-called : goal.returns-in-Host-clause-called
returns-in-Host-clause-called c =
    let modules = alone (module_of c.args.program.now.lists) in
    let k = c.args.call.now in
    let r = c.call_row in
    row_called modules k.callee c.in-Ptr.pointer c.in-Ptr.is (callee_seen modules (callees.Host c.in-Host.row)) c.in-Host.ensures.value c.args.program.now c.args.stack.now r.new.stack k.parts k.to k.arguments.now
    r.result c.args.memory.now r.new.memory r.new.written.items r.ensures.called

pub returns-in-Host-clause-keeps : goal.returns-in-Host-clause-keeps
returns-in-Host-clause-keeps c = keeps_none c.args.program.now

pub returns-in-Nothing-clause-called : goal.returns-in-Nothing-clause-called
returns-in-Nothing-clause-called c = λ body due ready.
    let modules = alone (module_of c.args.program.now.lists) in
    let k = c.args.call.now in
    let p = c.args.program.now in
    nothing_called modules k.callee c.in-Ptr.pointer c.in-Ptr.is c.callee.result c.callee.ensures.value c.in-Nothing.is c.fails-in-Nothing.result c.fails-in-Nothing.ensures (signature_of body.pools p.lists k.parts) (shapes_of body.pools p.lists k.parts)
    k.arguments.now k.to (core_of c.args.stack.now.frames due c.args.memory.now) c.args.written.now.items

pub returns-in-Nothing-clause-ready : goal.returns-in-Nothing-clause-ready
returns-in-Nothing-clause-ready c = λ h. h

pub returns-in-Nothing-clause-keeps : goal.returns-in-Nothing-clause-keeps
returns-in-Nothing-clause-keeps c = keeps_none c.args.program.now
