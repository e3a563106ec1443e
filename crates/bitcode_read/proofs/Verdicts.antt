-- What a stream answers, from what its records answer.
use Rattle.std.proofs.Common.{◌≡◌, ℕ, List, Some, None, refl, sym, ap, subst, ◌∙◌}
use Rattle.std.specs.Prelude.{IfErr, IfOk, Result, Ok, Err}
use Rattle.bit_stream.specs.declared.fault.StreamFault.{StreamFault}
use Rattle.bit_stream.specs.declared.fault.StreamFault.TheVariants as stream_fault
use Rattle.bit_tree.specs.Read.{IsStream, Judged}
use Rattle.bit_tree.specs.Stream.{Stream, StreamTree}
use Rattle.bit_tree.proofs.Faults.{tree_no_fault}
use Rattle.module_arena.specs.Lists.{Lists}
use Rattle.module_arena.specs.Module.{Module}
use Rattle.module_arena.specs.View.{module_of}
use Rattle.module_arena.specs.WellFormed.{IsWellFormed}
use Rattle.record_table.specs.Faults as faults
use Rattle.record_table.specs.Faults.{Answer, records}
use Rattle.record_table.specs.Records.{Spells, fault_in, read}
use Rattle.record_read.specs.declared.fault.BitcodeFault.{BitcodeFault}
use Rattle.record_read.specs.declared.fault.BitcodeFault.TheVariants as fault
use Rattle.record_read.specs.Faults.{Answers, IsFault, of_stream}
use Rattle.record_law.proofs.OnFormed.Whole.{stands_well}
use Rattle.bitcode_read.specs.Answers.{IsModule, IsReadAs, IsReadFault}

-- the records of the stream answer
abbrev pub AnswersAll : List ℕ → Result Lists BitcodeFault → Type 0
AnswersAll bytes result = (tree : StreamTree) → Stream bytes tree → Answers IsModule (read (records tree)) result

spelled_by : (bytes : List ℕ) (i : IsStream bytes) (arena : Lists) (a : Answer Module) → read (records i.tree) ≡ a → Answers IsModule a (Ok arena) → Spells bytes (module_of arena)
spelled_by bytes i arena (Ok m) is h = record { tree = i.tree; is_tree = i.stream; stands = is ∙ ap (λ (n : Module). Ok n) (sym h) }
spelled_by bytes i arena (Err told) is h = absurd h

spelled_ok : (bytes : List ℕ) (arena : Lists) → IsStream bytes → AnswersAll bytes (Ok arena) → Spells bytes (module_of arena)
spelled_ok bytes arena i h = spelled_by bytes i arena (read (records i.tree)) refl (h i.tree i.stream)

pub spelled : (bytes : List ℕ) (result : Result Lists BitcodeFault) → IsStream bytes → AnswersAll bytes result → IfOk result (λ arena. Spells bytes (module_of arena))
spelled bytes (Ok arena) i h = spelled_ok bytes arena i h
spelled bytes (Err given) i h = tt

pub well_formed : (bytes : List ℕ) (result : Result Lists BitcodeFault) → IsStream bytes → AnswersAll bytes result → IfOk result (λ arena. IsWellFormed (module_of arena))
well_formed bytes (Ok arena) i h = let s = spelled_ok bytes arena i h in stands_well s.tree (module_of arena) s.stands
well_formed bytes (Err given) i h = tt

pub alone : (bytes : List ℕ) (result : Result Lists BitcodeFault) → AnswersAll bytes result → (m : Module) → Spells bytes m → IsReadAs m result
alone bytes result h m s = by result (subst (λ (a : Answer Module). Answers IsModule a result) s.stands (h s.tree s.is_tree))
  where
    by : (result : Result Lists BitcodeFault) → Answers {A = Module} IsModule (Ok m) result → IsReadAs m result
    by (Ok arena) k = k
    by (Err given) k = k

-- ---- refusals

refused : (bytes : List ℕ) (i : IsStream bytes) (given : BitcodeFault) (told : faults.RecordFault) → read (records i.tree) ≡ Err told → IsFault given told → IsReadFault bytes given
refused bytes i (fault.Bit bit) faults.ForeignProducer is same = absurd (cc)
refused bytes i (fault.Bit bit) (faults.BadVersion version) is same = absurd (cc)
refused bytes i (fault.Bit bit) (faults.UnknownRecord id code) is same = absurd (cc)
refused bytes i (fault.Bit bit) (faults.BadRecord id at rule) is same = absurd (cc)
refused bytes i fault.Memory told is same = tt
refused bytes i fault.ForeignProducer told is same = record { tree = i.tree; is_tree = i.stream; told = told; is_told = ap fault_in is; same = same }
refused bytes i (fault.BadVersion version) told is same = record { tree = i.tree; is_tree = i.stream; told = told; is_told = ap fault_in is; same = same }
refused bytes i (fault.UnknownRecord id code) told is same = record { tree = i.tree; is_tree = i.stream; told = told; is_told = ap fault_in is; same = same }
refused bytes i (fault.BadRecord id at rule) told is same = record { tree = i.tree; is_tree = i.stream; told = told; is_told = ap fault_in is; same = same }

-- want of memory
memory_told : (bytes : List ℕ) (given : BitcodeFault) → given ≡ fault.Memory → IsReadFault bytes given
memory_told bytes given is = subst (IsReadFault bytes) (sym is) tt

pub told : (bytes : List ℕ) (result : Result Lists BitcodeFault) → IsStream bytes → AnswersAll bytes result → IfErr result (IsReadFault bytes)
told bytes (Ok arena) i h = tt
told bytes (Err given) i h = by (read (records i.tree)) refl (h i.tree i.stream)
  where
    by : (a : Answer Module) → read (records i.tree) ≡ a → Answers {A = Module} IsModule a (Err given) → IsReadFault bytes given
    by (Ok m) is k = memory_told bytes given k
    by (Err told) is k = refused bytes i given told is k

-- ---- the container

pub container_told : (bytes : List ℕ) (f : StreamFault) (given : BitcodeFault) → given ≡ of_stream f → Judged bytes (Err f) → IsReadFault bytes given
container_told bytes (stream_fault.Bit bit) given is h = subst (IsReadFault bytes) (sym is) h
container_told bytes stream_fault.Memory given is h = memory_told bytes given is

pub container_alone : (bytes : List ℕ) (f : StreamFault) (given : BitcodeFault) → given ≡ of_stream f → Judged bytes (Err f) → (m : Module) → Spells bytes m → given ≡ fault.Memory
container_alone bytes (stream_fault.Bit bit) given is h m s = absurd (never (sym (tree_no_fault bytes s.tree s.is_tree) ∙ h))
  where
    never : None ≡ Some bit → ⊥
    never e = cc
container_alone bytes stream_fault.Memory given is h m s = is
