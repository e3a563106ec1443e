-- What is extracted is well formed where its constants are good.
use Rattle.std.proofs.Common.{◌≡◌, true}
use Rattle.std.specs.List.{list_all}
use Rattle.module_arena.specs.Module.{Module}
use Rattle.module_arena.specs.Valid.{IsValid}
use Rattle.module_arena.specs.WellFormed.{IsWellFormed, is_good_constant, module_constants}
use Rattle.extract_rules.specs.declared.selection.Selection.{Selection}
use Rattle.extract_rules.specs.Extracted.{Extracted}
use Rattle.extract_rules.proofs.OnValid.Good.{functions_good, aliases_good}
use Rattle.extract_rules.proofs.OnValid.GoodVariables.{variables_good}
use Rattle.extract_rules.proofs.OnValid.Few.{few_entries}
use Rattle.extract_rules.proofs.OnValid.Names.{global_names_good}

pub well_formed_but_constants : (m : Module) (s : Selection) → IsWellFormed m → IsValid m → list_all (is_good_constant (Extracted m s)) (module_constants (Extracted m s)) ≡ true → IsWellFormed (Extracted m s)
well_formed_but_constants m s good valid constants = record {
  texts = good.texts;
  few = few_entries m s good;
  struct_names = good.struct_names;
  global_names = global_names_good m s good;
  structs = good.structs;
  variables = variables_good m s good valid;
  aliases = aliases_good m s good valid;
  functions = functions_good m s good valid;
  constants = constants;
}
