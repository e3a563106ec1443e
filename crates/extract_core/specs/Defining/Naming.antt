-- For `initialise_variables` and `define_functions`: that what kept definitions name is there.
use Rattle.std.specs.Prelude.{◌≡◌, All}
use Rattle.module_arena.specs.Lists.{Lists}
use Rattle.module_arena.specs.Module.{Variable, Function}
use Rattle.module_arena.specs.UsedNames.{names_in_variable, names_in_function}
use Rattle.entry_copy.specs.Copies.{HasNew}
use Rattle.entry_copy.specs.Tables.{Tables}
use Rattle.extract_core.specs.declared.fates.fates.Fate.{Fate}
use Rattle.extract_core.specs.declared.fates.fates.Fate.TheVariants.{Kept}

-- what the variable names has new ids, where it is kept
abbrev pub NamesOfVariable : Lists → Tables → Fate → Variable → Type 0
NamesOfVariable a t fate v = fate ≡ Kept → All (HasNew a t) (names_in_variable v)

-- the same of a function
abbrev pub NamesOfFunction : Lists → Tables → Fate → Function → Type 0
NamesOfFunction a t fate f = fate ≡ Kept → All (HasNew a t) (names_in_function f)
