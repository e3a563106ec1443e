use Rattle.std.proofs.Common.{drop}
use Rattle.std.specs.Prelude.{flat_map}
use Rattle.module_arena.specs.Valid.{alias_demands}
use Rattle.module_arena.specs.View.{module_of}
use Rattle.entry_verify.proofs.OnTypes.Judging.{Leads}
use Rattle.path_verify.proofs.all_entries.judge_aliases.Given as goal

abbrev pub invariant-aliases : goal.invariant-aliases
invariant-aliases l = Leads (flat_map (alias_demands (module_of l.judge)) (drop l.number (module_of l.judge).aliases)) (flat_map (alias_demands (module_of l.judge)) (module_of l.judge).aliases)
