-- For `choosing_ends`: that what is chosen with what it calls is all that there is to choose.
use Rattle.std.specs.Prelude.{◌≡◌, ◌<◌, List, length}
use Rattle.module_arena.specs.Module.{Bytes, Module}
use Rattle.extract_rules.specs.Selected.{with_called, times}

-- as many steps as there are functions are enough: a further one adds nothing
abbrev pub TimesAreEnough : Type 0
TimesAreEnough = (m : Module) (names : List Bytes) → 0 < length m.functions
    → with_called m (times (length m.functions) (with_called m) names) ≡ times (length m.functions) (with_called m) names
