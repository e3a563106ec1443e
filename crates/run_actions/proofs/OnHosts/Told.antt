-- What a call of the host answers, from what the function below answers.
use Rattle.std.proofs.Common.{◌≡◌, ℕ, List, [], Result, Ok, Err, refl, sym, subst, append-nil}
use Rattle.std.specs.Prelude.{IfOk, if◌then◌else◌}
use Rattle.std.specs.List.{list_any}
use Rattle.ir_eval.specs.declared.value.Scalar.{Scalar}
use Rattle.ir_memory.specs.Memory.{Blocks}
use Rattle.ir_tables.specs.declared.intrinsic.Intrinsic.{Intrinsic}
use Rattle.ir_tables.specs.declared.undefined_kind.UndefinedKind.TheVariants.{PoisonArgument}
use Rattle.module_arena.specs.declared.host.HostRow.{HostRow}
use Rattle.module_arena.specs.declared.host.HostRow.TheVariants.{Printf, Integer}
use Rattle.run_names.specs.declared.host.answer.HostAnswer.{HostAnswer}
use Rattle.run_names.specs.declared.host.answer.HostAnswer.TheVariants.{Gives, Reads, Exits, Fails, MemoryLimit}
use Rattle.run_names.specs.Host.Answers.{Writes, answer_of}
use Rattle.run_rules.specs.Answer as rules
use Rattle.run_rules.specs.Answer.{undefined}
use Rattle.run_rules.specs.Host.{done, host, is_poison}
use Rattle.type_table.specs.Shape.{Shape}

module _ {E : Type 0} where
  -- a call that writes nothing
  pub quiet : (what : rules.Answer) (m : Blocks) (old : List ℕ) (r : Result HostAnswer E) → IfOk r (λ a. what ≡ answer_of a m []) → Writes what m old old r
  quiet what m old (Ok (Gives result)) h = ([], h, sym (append-nil old))
  quiet what m old (Ok Reads) h = (h, refl)
  quiet what m old (Ok (Exits status)) h = (h, refl)
  quiet what m old (Ok (Fails kind)) h = (h, refl)
  quiet what m old (Ok MemoryLimit) h = (h, refl)
  quiet what m old (Err e) h = tt

  -- the same call in other words
  pub written_so : (what other : rules.Answer) (m : Blocks) (old new : List ℕ) (r : Result HostAnswer E) → other ≡ what → Writes other m old new r → Writes what m old new r
  written_so what other m old new r e h = subst (λ w. Writes w m old new r) e h

-- ---- rows that are neither an intrinsic over integers nor printf

pub plain_host : (row : HostRow) (shapes : List Shape) (vs : List Scalar) (m : Blocks) → ((which : Intrinsic) (width : ℕ) → row ≡ Integer which width → ⊥) → (row ≡ Printf → ⊥)
    → (if list_any is_poison vs then undefined PoisonArgument else done row vs m) ≡ host row shapes vs m
plain_host (Integer which width) shapes vs m other more = absurd (other which width refl)
plain_host Printf shapes vs m other more = absurd (more refl)
plain_host _ shapes vs m other more = refl
