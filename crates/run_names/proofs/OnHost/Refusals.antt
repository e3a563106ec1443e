-- What is answered where memory refused.
use Rattle.std.proofs.Common.{◌≡◌, ℕ, List, [], Result, Ok, Err, sym, ap, ◌∙◌, subst}
use Rattle.std.specs.Prelude.{IfOk}
use Rattle.std.specs.Result.{IsErr}
use Rattle.ir_tables.specs.declared.undefined_kind.UndefinedKind.{UndefinedKind}
use Rattle.ir_memory.specs.declared.fault.MemoryFault.{MemoryFault}
use Rattle.ir_memory.specs.declared.fault.MemoryFault.TheVariants as faults
use Rattle.ir_memory.specs.Answer.{Answers, NeedsNone}
use Rattle.ir_memory.specs.Memory.{Blocks}
use Rattle.run_rules.specs.Answer as rules
use Rattle.run_names.specs.Values.Answer.{Loads}
use Rattle.run_names.specs.declared.host.answer.HostAnswer.{HostAnswer}
use Rattle.run_names.specs.Host.Answers.{EndsTheRun, FailsBy, IsUndefined, Refuses, Writes, answer_of}

-- nothing is said of what was written where memory was wanted
pub writes_none : {E : Type 0} (what : rules.Answer) (m : Blocks) (old new : List ℕ) (r : Result HostAnswer E) → IsErr r → Writes what m old new r
writes_none what m old new (Ok a) is = cc
writes_none what m old new (Err e) is = tt

if_none : {E : Type 0} (r : Result HostAnswer E) (P : HostAnswer → Type 0) → IsErr r → IfOk r P
if_none (Ok a) P is = cc
if_none (Err e) P is = tt

-- a call that was refused is undefined, or nothing is told of it
pub refusal_told : {E : Type 0} (what : rules.Answer) (expected : Result Blocks UndefinedKind) (old new : Blocks) (fault : MemoryFault) (r : Result HostAnswer E)
    → ((kind : UndefinedKind) → expected ≡ Err kind → what ≡ rules.undefined kind) → Answers {T = Unit {0}} expected old new (Err fault) → Refuses fault r → IfOk r (λ a. what ≡ answer_of a new [])
refusal_told {E = E} what expected old new (faults.Undefined kind) r more h told =
    let P : Result HostAnswer E → Type 0 = λ s. IfOk s (λ a. what ≡ answer_of a new []) in subst P (sym told) (more kind h.0)
refusal_told what expected old new faults.Memory r more h told = if_none r (λ a. what ≡ answer_of a new []) told
refusal_told what expected old new faults.MemoryLimit r more h told = absurd h

-- memory is as it was
pub unchanged : (expected : Result Blocks UndefinedKind) (old new : Blocks) (fault : MemoryFault) → Answers {T = Unit {0}} expected old new (Err fault) → new ≡ old
unchanged expected old new (faults.Undefined kind) h = h.1
unchanged expected old new faults.Memory h = h.1
unchanged expected old new faults.MemoryLimit h = absurd h

-- the same of a string that was to be written
pub refusal_writes : {E : Type 0} (what : rules.Answer) (m : Blocks) (string : Result (List ℕ) UndefinedKind) (old new : List ℕ) (fault : MemoryFault) (r : Result HostAnswer E)
    → ((kind : UndefinedKind) → string ≡ Err kind → what ≡ rules.undefined kind) → Loads {A = ℕ} {T = Unit {0}} string old new (Err fault) → Refuses fault r → Writes what m old new r
refusal_writes {E = E} what m string old new (faults.Undefined kind) r more h told =
    let P : Result HostAnswer E → Type 0 = λ s. Writes what m old new s in subst P (sym told) (more kind h.0, h.1)
refusal_writes what m string old new faults.Memory r more h told = writes_none what m old new r told
refusal_writes what m string old new faults.MemoryLimit r more h told = absurd h

-- ---- calls that take no memory

-- such a call is refused only where it is undefined
pub undefined_only : (expected : Result Blocks UndefinedKind) (old new : Blocks) (fault : MemoryFault) → Answers {T = Unit {0}} expected old new (Err fault) → NeedsNone {T = Unit {0}} (Err fault) → IsUndefined fault
undefined_only expected old new (faults.Undefined kind) h none = tt
undefined_only expected old new faults.Memory h none = none
undefined_only expected old new faults.MemoryLimit h none = h

-- and that is what is told
pub failure_told : (what : rules.Answer) (expected : Result Blocks UndefinedKind) (old new : Blocks) (fault : MemoryFault) (a : HostAnswer) → ((kind : UndefinedKind) → expected ≡ Err kind → what ≡ rules.undefined kind)
    → Answers {T = Unit {0}} expected old new (Err fault) → FailsBy fault a → what ≡ answer_of a new []
failure_told what expected old new (faults.Undefined kind) a more h told = more kind h.0 ∙ ap (λ a. answer_of a new []) (sym told)
failure_told what expected old new faults.Memory a more h told = absurd told
failure_told what expected old new faults.MemoryLimit a more h told = absurd told

-- memory is as it was, whether the program ends or not
pub stays : {E : Type 0} (r : Result HostAnswer E) (P : Type 0) → P → IfOk r (λ a. EndsTheRun a → P)
stays (Ok a) P h = λ ends. h
stays (Err e) P h = tt
