-- For `plans_are_typed`: that opening a valid module needs what typed runs begin with.
use Rattle.std.specs.Prelude.{[], ◌∷◌}
use Rattle.module_arena.specs.Module.{Module}
use Rattle.module_arena.specs.Valid.{IsValid}
use Rattle.module_arena.specs.WellFormed.{IsWellFormed}
use Rattle.run_rules.specs.Look.{look, table}
use Rattle.run_rules.specs.Plan.{plan}
use Rattle.typed_runs.specs.Plans.{IsTypedPlan}
use Rattle.typed_runs.specs.Look.Typings.{typing_of}

-- the plan of each well-formed, valid module
abbrev pub PlansAreTyped : Type 0
PlansAreTyped = (m : Module) → IsWellFormed m → IsValid m → IsTypedPlan (typing_of (m ∷ [])) (look (m ∷ [])) (table (m ∷ [])) (plan (m ∷ []))
