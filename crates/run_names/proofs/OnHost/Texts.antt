-- What `putchar` and `puts` come to.
use Rattle.std.proofs.Common.{◌≡◌, ℕ, ◌%◌, [], ◌∷◌, Option, sym, ap}
use Rattle.ir_eval.specs.declared.value.Scalar.TheVariants.{Int}
use Rattle.ir_intrinsics.specs.declared.outcome.Outcome.{Outcome}
use Rattle.ir_memory.specs.Memory.{Blocks}
use Rattle.module_arena.specs.declared.host.HostRow.TheVariants.{Putchar}
use Rattle.run_rules.specs.Answer.{Gives}
use Rattle.run_rules.specs.Host.{done}
use Rattle.run_names.specs.Host.Answers.{leaves_of}

pub byte_put : (n : ℕ) (m : Blocks) (result : Option Outcome) → leaves_of result ≡ Int (n % 256) ∷ [] → done Putchar (Int n ∷ []) m ≡ Gives (leaves_of result) m (n % 256 ∷ [])
byte_put n m result leaves = ap (λ l. Gives l m (n % 256 ∷ [])) (sym leaves)
