-- For `put_byte`, `put_line`, `string_length`, `allocate`, `free`, `copy`, `fill` and `evaluate`: what their answers mean in the words of a run.
use Rattle.std.specs.Prelude.{◌≡◌, ℕ, ⊤, List, [], ◌++◌, Option, Some, None, Result, Ok, Err}
use Rattle.std.specs.Result.{IsErr}
use Rattle.ir_eval.specs.declared.value.Scalar.{Scalar}
use Rattle.ir_intrinsics.specs.declared.outcome.Outcome.{Outcome}
use Rattle.ir_memory.specs.declared.fault.MemoryFault.{MemoryFault}
use Rattle.ir_memory.specs.declared.fault.MemoryFault.TheVariants as faults
use Rattle.ir_memory.specs.Memory.{Blocks}
use Rattle.run_rules.specs.declared.end.End.TheVariants as ends
use Rattle.run_rules.specs.Answer as rules
use Rattle.run_rules.specs.Host.{outcome_leaves}
use Rattle.run_names.specs.declared.host.answer.HostAnswer.{HostAnswer}
use Rattle.run_names.specs.declared.host.answer.HostAnswer.TheVariants.{Gives, Reads, Exits, Fails, MemoryLimit}

-- the leaves of a result, and none where there is no result
abbrev pub leaves_of : Option Outcome → List Scalar
leaves_of None = []
leaves_of (Some outcome) = outcome_leaves outcome

-- an answer as a run knows it, with memory and with what was written
abbrev pub answer_of : HostAnswer → Blocks → List ℕ → rules.Answer
answer_of (Gives result) m output = rules.Gives (leaves_of result) m output
answer_of Reads m output = rules.Reads
answer_of (Exits status) m output = rules.Halts (ends.Exit status)
answer_of (Fails kind) m output = rules.undefined kind
answer_of MemoryLimit m output = rules.Halts ends.MemoryLimit

-- What is written is behind what was there, and only where the call returns. Where memory is wanted, a part of it may be there
abbrev pub Writes : {E : Type 0} → rules.Answer → Blocks → (old new : List ℕ) → Result HostAnswer E → Type 0
Writes expected m old new (Ok (Gives result)) = (output : List ℕ) × (expected ≡ answer_of (Gives result) m output) × (new ≡ old ++ output)
Writes expected m old new (Ok Reads) = (expected ≡ answer_of Reads m []) × (new ≡ old)
Writes expected m old new (Ok (Exits status)) = (expected ≡ answer_of (Exits status) m []) × (new ≡ old)
Writes expected m old new (Ok (Fails kind)) = (expected ≡ answer_of (Fails kind) m []) × (new ≡ old)
Writes expected m old new (Ok MemoryLimit) = (expected ≡ answer_of MemoryLimit m []) × (new ≡ old)
Writes expected m old new (Err e) = ⊤

-- what is answered where memory refused
abbrev pub Refuses : {E : Type 0} → MemoryFault → Result HostAnswer E → Type 0
Refuses (faults.Undefined kind) answer = answer ≡ Ok (Fails kind)
Refuses faults.MemoryLimit answer = answer ≡ Ok MemoryLimit
Refuses faults.Memory answer = IsErr answer

-- the program ends with this answer
abbrev pub EndsTheRun : HostAnswer → Type 0
EndsTheRun (Gives result) = ⊥
EndsTheRun Reads = ⊥
EndsTheRun (Exits status) = ⊤
EndsTheRun (Fails kind) = ⊤
EndsTheRun MemoryLimit = ⊤

-- memory refused since the call is undefined
abbrev pub IsUndefined : MemoryFault → Type 0
IsUndefined (faults.Undefined kind) = ⊤
IsUndefined faults.MemoryLimit = ⊥
IsUndefined faults.Memory = ⊥

-- what is answered then
abbrev pub FailsBy : MemoryFault → HostAnswer → Type 0
FailsBy (faults.Undefined kind) answer = answer ≡ Fails kind
FailsBy faults.MemoryLimit answer = ⊥
FailsBy faults.Memory answer = ⊥
