-- New ids of entries stay what they are where entries keep their names.
use Rattle.module_arena.specs.Functions.{variable_names, alias_names, function_names}
use Rattle.module_arena.specs.Lists.{Lists}
use Rattle.module_arena.specs.View.{module_of}
use Rattle.entry_copy.specs.Tables.{Tables}
use Rattle.extract_core.specs.declared.fates.fates.Fates.{Fates}
use Rattle.extract_core.specs.Declaring.Declaring.{KeepsNames}
use Rattle.extract_core.proofs.OnDeclaring.NewIds.{ids_stay}
use Rattle.extract_core.specs.Entries.NewIds.{HaveNewIds}

pub new_ids_stay : (a : Lists) (fates : Fates) (b c : Lists) (t : Tables) → KeepsNames b c → HaveNewIds a fates b t → HaveNewIds a fates c t
new_ids_stay a fates b c t keeps h = record {
  variables = ids_stay b c keeps (variable_names (module_of a)) fates.variables t.variables h.variables;
  functions = ids_stay b c keeps (function_names (module_of a)) fates.functions t.functions h.functions;
  aliases = ids_stay b c keeps (alias_names (module_of a)) fates.aliases t.aliases h.aliases;
}
