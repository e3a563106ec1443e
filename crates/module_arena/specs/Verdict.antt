-- Says how the code reads: what is told of a module, first that a function is too large, else its first failure. What
-- `verify` promises is said by path_verify.
use Rattle.std.specs.Prelude.{ℕ, Option, Some, None}
use Rattle.module_arena.specs.Module.{Bytes, Function, Module}
use Rattle.module_arena.specs.Functions.{product, first_too_large}
use Rattle.module_arena.specs.Valid.{Entity, first_failure}

-- accepted, or why not
pub data Verdict : Type 0 where
  Accepted : Verdict
  FunctionTooLarge : (name : Bytes) → (product : ℕ) → Verdict
  Invalid : (entity : Entity) → (rule : ℕ) → Verdict

-- the first too large function, or else the first failure
abbrev pub verdict_of : Option Function → Option (Entity × ℕ) → Verdict
verdict_of (Some f) failure = FunctionTooLarge f.name (product f)
verdict_of None (Some failure) = Invalid failure.0 failure.1
verdict_of None None = Accepted

-- what is told of this module
abbrev pub verdict : Module → Verdict
verdict m = verdict_of (first_too_large m) (first_failure m)
