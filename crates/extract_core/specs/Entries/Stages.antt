-- For `copy_ground` and `declare_entries`: the module as far as it is made.
use Rattle.std.specs.Prelude.{map}
use Rattle.module_arena.specs.Module.{Module, empty_module}
use Rattle.item_build.specs.Types.Declarations.{without_initialiser, without_target}
use Rattle.item_build.specs.Types.Parameters.{without_body}
use Rattle.extract_core.specs.declared.fates.fates.Fates.{Fates}
use Rattle.extract_core.specs.Fates.Fates.{variables_by, aliases_by, functions_by}

-- the three texts of a module alone
abbrev pub texts_of : Module → Module
texts_of m = record empty_module { source = m.source; layout = m.layout; triple = m.triple }

-- the texts and the structs of a module
abbrev pub without_entries : Module → Module
without_entries m = record (texts_of m) { structs = m.structs }

-- every entry of a part declared, and none of them defined yet
abbrev pub declared_by : Module → Fates → Module
declared_by m fates = record m {
  variables = map without_initialiser (variables_by m fates);
  aliases = map without_target (aliases_by m fates);
  functions = map without_body (functions_by m fates);
}
