use Rattle.module_arena.specs.View.{module_of}
use Rattle.run_names.specs.Told.{alone}
use Rattle.run_rules.specs.Look.{look, table}
use Rattle.typed_runs.specs.Look.Typings.{typing_of}
use Rattle.run_acts.proofs.AsCallee.{code_enters, code_fits, code_refused, ready_through}
use Rattle.run_acts.proofs.FirstCalls.{code_kept}
use Rattle.run_acts.proofs.Readiness.{keeps_then, ready_kept}
use Rattle.run_acts.proofs.address.call_code.Goals as goal

pub returns-then-not-is_same-clause-called : goal.returns-then-not-is_same-clause-called
returns-then-not-is_same-clause-called c =
    let a = c.args in
    let k = a.call.now in
    code_refused a.program.now c.head.new.self a.stack.now k.parts k.to k.arguments.now c.requires.call.0 c.requires.call.1 c.in_ok-head.head a.id c.is_same.result c.in_ok-head.ensures.keeps c.in_ok-head.ensures.head
    c.is_same.ensures c.if-not-is_same.true c.fails.result c.fails.ensures

pub returns-then-not-is_same-clause-ready : goal.returns-then-not-is_same-clause-ready
returns-then-not-is_same-clause-ready c = ready_kept c.args.program.now c.head.new.self c.args.stack.now c.in_ok-head.ensures.keeps

pub enter-requires-clause-code : goal.enter-requires-clause-code
enter-requires-clause-code c = code_kept c.args.program.now c.head.new.self c.args.id c.in_ok-head.ensures.keeps c.requires.code

pub enter-requires-clause-arguments : goal.enter-requires-clause-arguments
enter-requires-clause-arguments c =
    let a = c.args in
    let k = a.call.now in
    let parts = alone (module_of a.program.now.lists) in
    code_fits a.program.now c.head.new.self a.stack.now k.parts k.to k.arguments.now c.requires.call.0 c.requires.call.1 c.in_ok-head.head a.id c.is_same.result c.in_ok-head.ensures.keeps c.in_ok-head.ensures.head
    c.is_same.ensures c.if-not-is_same.false (typing_of parts) (look parts) (table parts) c.requires.typed

pub returns-clause-called : goal.returns-clause-called
returns-clause-called c =
    let a = c.args in
    let k = a.call.now in
    code_enters a.program.now c.head.new.self a.stack.now k.parts k.to k.arguments.now c.requires.call.0 c.requires.call.1 c.in_ok-head.head a.id c.is_same.result c.in_ok-head.ensures.keeps c.in_ok-head.ensures.head
    c.is_same.ensures c.if-not-is_same.false c.enter.new.stack c.enter.result c.enter.ensures.entered

pub returns-clause-ready : goal.returns-clause-ready
returns-clause-ready c = ready_through c.args.program.now c.head.new.self c.enter.new.program c.args.stack.now c.enter.new.stack c.enter.result c.in_ok-head.ensures.keeps c.enter.ensures.ready

pub returns-clause-keeps : goal.returns-clause-keeps
returns-clause-keeps c = keeps_then c.args.program.now c.head.new.self c.enter.new.program c.in_ok-head.ensures.keeps c.enter.ensures.keeps
