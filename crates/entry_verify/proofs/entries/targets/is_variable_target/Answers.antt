use Rattle.std.proofs.Common.{sym, ap, ◌∙◌}
use Rattle.std.specs.List.{list_any}
use Rattle.module_arena.specs.EntryRules.{is_lasting_variable}
use Rattle.module_arena.specs.View.{module_of}
use Rattle.entry_verify.specs.Entries.Readings.{target_name}
use Rattle.entry_verify.proofs.OnEntries.EntriesFound.{no_nameless_variable}
use Rattle.entry_verify.proofs.entries.targets.is_variable_target.Goals as goal

pub returns-in-Some : goal.returns-in-Some
returns-in-Some c =
    let a = c.args.arena.now in
    c.leads_to_variable.ensures ∙ ap (λ o. list_any (is_lasting_variable (target_name a o)) (module_of a).variables) (sym c.in-Some.is)

pub returns-in-None : goal.returns-in-None
returns-in-None c =
    let a = c.args.arena.now in
    no_nameless_variable a c.see_names.ensures.variables ∙ ap (λ o. list_any (is_lasting_variable (target_name a o)) (module_of a).variables) (sym c.in-None.is)
