-- For `set_texts`: the texts of a module.
use Rattle.std.specs.Prelude.{Option}
use Rattle.module_arena.specs.Module.{Bytes, Module}

-- the module with these texts
abbrev pub with_texts : Module → Option Bytes → Option Bytes → Option Bytes → Module
with_texts m source layout triple = record m { source = source; layout = layout; triple = triple }
