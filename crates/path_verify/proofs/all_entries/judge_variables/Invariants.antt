use Rattle.std.proofs.Common.{drop}
use Rattle.std.specs.Prelude.{flat_map}
use Rattle.module_arena.specs.Valid.{variable_demands}
use Rattle.module_arena.specs.View.{module_of}
use Rattle.entry_verify.proofs.OnTypes.Judging.{Leads}
use Rattle.path_verify.proofs.all_entries.judge_variables.Given as goal

abbrev pub invariant-variables : goal.invariant-variables
invariant-variables l = Leads (flat_map (variable_demands (module_of l.judge)) (drop l.number (module_of l.judge).variables)) (flat_map (variable_demands (module_of l.judge)) (module_of l.judge).variables)
