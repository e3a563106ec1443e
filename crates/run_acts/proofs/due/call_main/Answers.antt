use Rattle.std.proofs.Common.{[]}
use Rattle.module_arena.specs.View.{module_of}
use Rattle.run_names.specs.Told.{alone}
use Rattle.run_rules.specs.Look.{table}
use Rattle.run_acts.specs.Dues.{main_type}
use Rattle.run_acts.proofs.AsCallee.{called_enters, entered_gets_none, ready_through}
use Rattle.run_acts.proofs.FirstCalls.{code_kept, main_callee, main_fits, main_is_code, main_type_is}
use Rattle.run_acts.proofs.Readiness.{keeps_then}
use Rattle.run_acts.proofs.due.call_main.Goals as goal

pub unreachable-requires : goal.unreachable-requires
unreachable-requires c =
    main_is_code (alone (module_of c.args.program.now.lists)) c.args.address c.args.arguments.now c.callee.result c.requires.main c.callee.ensures.value c.in_default.not-Code

pub enter-requires-clause-code : goal.enter-requires-clause-code
enter-requires-clause-code c = code_kept c.args.program.now c.head.new.self c.in-Code.id c.in_ok-head.ensures.keeps c.in-Code.ensures.code

pub enter-requires-clause-arguments : goal.enter-requires-clause-arguments
enter-requires-clause-arguments c =
    main_fits c.args.program.now c.head.new.self c.in-Code.id c.in_ok-head.head c.in_ok-head.ensures.keeps c.in_ok-head.ensures.head c.args.address c.args.arguments.now c.callee.result c.in-Code.is c.callee.ensures.value
    c.requires.main c.requires.typed c.requires.few

pub returns-clause-called : goal.returns-clause-called
returns-clause-called c =
    let p = c.args.program.now in
    let q = c.head.new.self in
    let h = c.in_ok-head.ensures.head in
    let vs = c.args.arguments.now in
    called_enters (table (alone (module_of p.lists)) c.args.address) c.in-Code.id c.in_ok-head.head.leaves h.signature (main_type vs) (main_type vs).parameters vs 0
    (main_callee p q c.in-Code.id c.in_ok-head.head c.in_ok-head.ensures.keeps h c.args.address vs c.callee.result c.in-Code.is c.callee.ensures.value c.requires.main)
    (main_type_is p q c.in-Code.id c.in_ok-head.head c.in_ok-head.ensures.keeps h c.args.address vs c.callee.result c.in-Code.is c.callee.ensures.value c.requires.main)
    [] c.args.stack.now c.enter.new.stack c.requires.idle c.enter.result c.enter.ensures.entered

pub returns-clause-no_byte : goal.returns-clause-no_byte
returns-clause-no_byte c = entered_gets_none c.in-Code.id c.in_ok-head.head.leaves 0 c.args.arguments.now c.args.stack.now c.enter.new.stack c.enter.result c.enter.ensures.entered

pub returns-clause-ready : goal.returns-clause-ready
returns-clause-ready c = ready_through c.args.program.now c.head.new.self c.enter.new.program c.args.stack.now c.enter.new.stack c.enter.result c.in_ok-head.ensures.keeps c.enter.ensures.ready

pub returns-clause-keeps : goal.returns-clause-keeps
returns-clause-keeps c = keeps_then c.args.program.now c.head.new.self c.enter.new.program c.in_ok-head.ensures.keeps c.enter.ensures.keeps
