use Rattle.std.proofs.Common.{ap}
use Rattle.ir_memory.specs.Memory.{filled}
use Rattle.run_rules.specs.Answer.{changes}
use Rattle.run_names.specs.Host.Answers.{leaves_of}
use Rattle.run_names.proofs.OnHost.Refusals.{failure_told, unchanged, undefined_only}
use Rattle.run_names.proofs.host.range.fill.Goals as goal

pub returns-in-Ok-clause-answer : goal.returns-in-Ok-clause-answer
returns-in-Ok-clause-answer c = ap (changes (leaves_of c.args.gives)) c.in-Ok.ensures.answer

pub failing-requires : goal.failing-requires
failing-requires c = undefined_only (filled c.args.to c.args.byte c.args.count c.args.memory.now) c.args.memory.now c.fill.new.self c.in-Err.fault c.in-Err.ensures.answer c.in-Err.ensures.memory

pub returns-in-Err-clause-answer : goal.returns-in-Err-clause-answer
returns-in-Err-clause-answer c =
    let m = c.args.memory.now in
    let expected = filled c.args.to c.args.byte c.args.count m in
    failure_told (changes (leaves_of c.args.gives) expected) expected m c.fill.new.self c.in-Err.fault c.failing.result (λ kind e. ap (changes (leaves_of c.args.gives)) e) c.in-Err.ensures.answer c.failing.ensures

pub returns-in-Err-clause-refused : goal.returns-in-Err-clause-refused
returns-in-Err-clause-refused c = λ ends. unchanged (filled c.args.to c.args.byte c.args.count c.args.memory.now) c.args.memory.now c.fill.new.self c.in-Err.fault c.in-Err.ensures.answer

pub returns-in-Ok-clause-refused : goal.returns-in-Ok-clause-refused
returns-in-Ok-clause-refused c = λ ends. absurd ends
