use Rattle.std.proofs.Common.{[], ap, ◌∙◌}
use Rattle.ir_eval.specs.declared.value.Scalar.TheVariants.{Ptr}
use Rattle.ir_memory.specs.declared.kind.BlockKind.TheVariants.{Heap}
use Rattle.ir_memory.specs.Memory.{ended}
use Rattle.run_rules.specs.Answer.{changes}
use Rattle.run_rules.specs.Host.{frees}
use Rattle.run_names.proofs.OnHost.Heaps.{freed, freed_null}
use Rattle.run_names.proofs.OnHost.Refusals.{failure_told, unchanged, undefined_only}
use Rattle.run_names.proofs.host.block.free.Goals as goal

pub returns-then-pointer-eq0-clause-answer : goal.returns-then-pointer-eq0-clause-answer
returns-then-pointer-eq0-clause-answer c = freed_null c.args.pointer c.args.memory.now c.if-pointer-eq0.true

pub returns-in-Ok-clause-answer : goal.returns-in-Ok-clause-answer
returns-in-Ok-clause-answer c = freed c.args.pointer c.args.memory.now c.if-pointer-eq0.false ∙ ap (changes []) c.in-Ok.ensures.answer

pub failing-requires : goal.failing-requires
failing-requires c = undefined_only (ended (Ptr c.args.pointer) Heap c.args.memory.now) c.args.memory.now c.end_block.new.self c.in-Err.fault c.in-Err.ensures.answer c.in-Err.ensures.memory

pub returns-in-Err-clause-answer : goal.returns-in-Err-clause-answer
returns-in-Err-clause-answer c =
    let m = c.args.memory.now in
    let p = c.args.pointer in
    failure_told (frees p m) (ended (Ptr p) Heap m) m c.end_block.new.self c.in-Err.fault c.failing.result (λ kind e. freed p m c.if-pointer-eq0.false ∙ ap (changes []) e) c.in-Err.ensures.answer
    c.failing.ensures

pub returns-in-Err-clause-refused : goal.returns-in-Err-clause-refused
returns-in-Err-clause-refused c = λ ends. unchanged (ended (Ptr c.args.pointer) Heap c.args.memory.now) c.args.memory.now c.end_block.new.self c.in-Err.fault c.in-Err.ensures.answer

pub returns-then-pointer-eq0-clause-refused : goal.returns-then-pointer-eq0-clause-refused
returns-then-pointer-eq0-clause-refused c = λ ends. absurd ends

pub returns-in-Ok-clause-refused : goal.returns-in-Ok-clause-refused
returns-in-Ok-clause-refused c = λ ends. absurd ends
