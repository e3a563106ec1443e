-- For `declare_entries`: the new ids of the entries of a module.
use Rattle.module_arena.specs.Functions.{variable_names, alias_names, function_names}
use Rattle.module_arena.specs.Lists.{Lists}
use Rattle.module_arena.specs.View.{module_of}
use Rattle.entry_copy.specs.Tables.{Tables}
use Rattle.extract_core.specs.declared.fates.fates.Fates.{Fates}
use Rattle.extract_core.specs.Declaring.Declaring.{AreNewIds}

-- the new ids of all entries of a
pub record HaveNewIds (a : Lists) (fates : Fates) (b : Lists) (t : Tables) : Type 0 where
  pub variables : AreNewIds b (variable_names (module_of a)) fates.variables t.variables
  pub functions : AreNewIds b (function_names (module_of a)) fates.functions t.functions
  pub aliases : AreNewIds b (alias_names (module_of a)) fates.aliases t.aliases
