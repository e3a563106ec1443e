-- For `constants_of_a_checked_module_can_stand`: that the leaves of each constant of a checked module may be asked for.
use Rattle.std.specs.List.{AllByRecursion}
use Rattle.module_arena.specs.Constants.{Typed}
use Rattle.module_arena.specs.Module.{Module}
use Rattle.module_arena.specs.Valid.{IsValid}
use Rattle.module_arena.specs.WellFormed.{IsWellFormed, module_constants}
use Rattle.run_initial.specs.Constants.Sound.{IsSound}

-- a constant can stand at the type with which it is written
abbrev pub CanStand : Module → Typed → Type 0
CanStand m x = IsSound m x.0 x.1

-- each constant that a well-formed, valid module writes can stand at the type that is written for it
abbrev pub ConstantsCanStand : Type 0
ConstantsCanStand = (m : Module) → IsWellFormed m → IsValid m → AllByRecursion (CanStand m) (module_constants m)
