use Rattle.std.proofs.Common.{◌≡◌, ap}
use Rattle.ir_memory.specs.Memory.{copied}
use Rattle.ir_memory.proofs.Changed.{on_err}
use Rattle.run_rules.specs.Answer.{changes}
use Rattle.run_names.specs.Host.Answers.{leaves_of}
use Rattle.run_names.proofs.OnHost.Refusals.{refusal_told, stays, unchanged}
use Rattle.run_names.proofs.host.range.copy.Goals as goal

pub returns-in-Ok-clause-answer : goal.returns-in-Ok-clause-answer
returns-in-Ok-clause-answer c = ap (changes (leaves_of c.args.gives)) c.in-Ok.ensures.answer

pub returns-in-Err-clause-answer : goal.returns-in-Err-clause-answer
returns-in-Err-clause-answer c =
    let m = c.args.memory.now in
    let expected = copied c.args.to c.args.from c.args.count c.args.may_overlap m in
    refusal_told (changes (leaves_of c.args.gives) expected) expected m c.copy.new.self c.in-Err.fault c.refused.result (λ kind e. ap (changes (leaves_of c.args.gives)) e) c.in-Err.ensures.answer
    c.refused.ensures

pub returns-in-Err-clause-err : goal.returns-in-Err-clause-err
returns-in-Err-clause-err c =
    let m = c.args.memory.now in
    let expected = copied c.args.to c.args.from c.args.count c.args.may_overlap m in
    on_err c.refused.result (c.copy.new.self ≡ m) (unchanged expected m c.copy.new.self c.in-Err.fault c.in-Err.ensures.answer)

pub returns-in-Err-clause-refused : goal.returns-in-Err-clause-refused
returns-in-Err-clause-refused c =
    let m = c.args.memory.now in
    let expected = copied c.args.to c.args.from c.args.count c.args.may_overlap m in
    stays c.refused.result (c.copy.new.self ≡ m) (unchanged expected m c.copy.new.self c.in-Err.fault c.in-Err.ensures.answer)

pub returns-in-Ok-clause-refused : goal.returns-in-Ok-clause-refused
returns-in-Ok-clause-refused c = λ ends. absurd ends
