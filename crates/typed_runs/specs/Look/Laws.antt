-- For `what_an_address_has_is_typed`: that look-up of a valid module gives what a typed program asks for.
use Rattle.std.specs.Prelude.{ℕ, [], ◌∷◌}
use Rattle.module_arena.specs.Module.{Module}
use Rattle.module_arena.specs.Valid.{IsValid}
use Rattle.module_arena.specs.WellFormed.{IsWellFormed}
use Rattle.run_rules.specs.Look.{look, table}
use Rattle.typed_runs.specs.States.{IsTypedCallee}
use Rattle.typed_runs.specs.Look.Typings.{typing_of}

-- each address of a well-formed, valid module has a typed callee, if any
abbrev pub CalleesAreTyped : Type 0
CalleesAreTyped =
    (m : Module) → IsWellFormed m → IsValid m → (address : ℕ) → IsTypedCallee (typing_of (m ∷ [])) (look (m ∷ [])) (table (m ∷ [])) (table (m ∷ []) address)
