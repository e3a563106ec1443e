use Rattle.std.proofs.Common.{◌<◌, [], length, sym, ◌∙◌, subst}
use Rattle.type_table.specs.Types.{Types}
use Rattle.ir_tables.specs.declared.undefined_kind.UndefinedKind.TheVariants.{AnotherFunctionType}
use Rattle.run_rules.specs.Due.{constructor_type}
use Rattle.module_arena.specs.View.{module_of}
use Rattle.run_names.specs.declared.callee.CalleeRef.TheVariants as callees
use Rattle.run_names.specs.Told.{alone, callee_seen}
use Rattle.run_acts.specs.declared.next.Stop.TheVariants as stops
use Rattle.run_acts.proofs.AsCallee.{called_enters, entered_gets_none, head_callee, ready_through}
use Rattle.run_acts.proofs.Entering.{ended_gets_none}
use Rattle.run_acts.proofs.FirstCalls.{code_kept, code_there, constructor_refused, constructor_tested}
use Rattle.run_acts.proofs.Readiness.{keeps_then, ready_kept}
use Rattle.run_acts.proofs.due.enter_constructor.Goals as goal

pub function-requires : goal.function-requires
function-requires c = code_there c.args.program.now c.head.new.self c.args.id c.in_ok-head.ensures.keeps c.requires.code

pub is_constructor-requires : goal.is_constructor-requires
is_constructor-requires c = subst (λ (t : Types). c.function.result.now.result < length t.types) (sym c.types.ensures) c.function.ensures.result_known

pub returns-then-not-is_constructor-clause-called : goal.returns-then-not-is_constructor-clause-called
returns-then-not-is_constructor-clause-called c =
    let q = c.head.new.self in
    let h = c.in_ok-head.ensures.head in
    constructor_refused c.args.program.now q c.args.id c.in_ok-head.head c.in_ok-head.ensures.keeps h c.is_constructor.result
    (constructor_tested q c.args.id c.in_ok-head.head h c.types.result.now c.function.result.now c.is_constructor.result c.types.ensures c.function.ensures.function c.is_constructor.ensures)
    c.if-not-is_constructor.true c.fails.result c.fails.ensures c.args.stack.now.frames c.requires.idle

pub returns-then-not-is_constructor-clause-no_byte : goal.returns-then-not-is_constructor-clause-no_byte
returns-then-not-is_constructor-clause-no_byte c = ended_gets_none c.fails.result (stops.Undefined AnotherFunctionType) c.fails.ensures

pub returns-then-not-is_constructor-clause-ready : goal.returns-then-not-is_constructor-clause-ready
returns-then-not-is_constructor-clause-ready c = ready_kept c.args.program.now c.head.new.self c.args.stack.now c.in_ok-head.ensures.keeps

pub enter-requires-clause-code : goal.enter-requires-clause-code
enter-requires-clause-code c = code_kept c.args.program.now c.head.new.self c.args.id c.in_ok-head.ensures.keeps c.requires.code

pub returns-clause-called : goal.returns-clause-called
returns-clause-called c =
    let p = c.args.program.now in
    let q = c.head.new.self in
    let h = c.in_ok-head.ensures.head in
    let test = constructor_tested q c.args.id c.in_ok-head.head h c.types.result.now c.function.result.now c.is_constructor.result c.types.ensures c.function.ensures.function c.is_constructor.ensures in
    called_enters (callee_seen (alone (module_of p.lists)) (callees.Code c.args.id)) c.args.id c.in_ok-head.head.leaves h.signature constructor_type [] [] 0 (head_callee p q c.args.id c.in_ok-head.head c.in_ok-head.ensures.keeps h)
    (sym test ∙ c.if-not-is_constructor.false) [] c.args.stack.now c.enter.new.stack c.requires.idle c.enter.result c.enter.ensures.entered

pub returns-clause-no_byte : goal.returns-clause-no_byte
returns-clause-no_byte c = entered_gets_none c.args.id c.in_ok-head.head.leaves 0 [] c.args.stack.now c.enter.new.stack c.enter.result c.enter.ensures.entered

pub returns-clause-ready : goal.returns-clause-ready
returns-clause-ready c = ready_through c.args.program.now c.head.new.self c.enter.new.program c.args.stack.now c.enter.new.stack c.enter.result c.in_ok-head.ensures.keeps c.enter.ensures.ready

pub returns-clause-keeps : goal.returns-clause-keeps
returns-clause-keeps c = keeps_then c.args.program.now c.head.new.self c.enter.new.program c.in_ok-head.ensures.keeps c.enter.ensures.keeps
