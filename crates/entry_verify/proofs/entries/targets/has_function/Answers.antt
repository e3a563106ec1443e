use Rattle.std.proofs.Common.{sym, ap, ◌∙◌}
use Rattle.entry_verify.proofs.OnConstants.FunctionNames.{has_function_told}
use Rattle.module_arena.specs.EntryRules.{has_function}
use Rattle.module_arena.specs.View.{module_of}
use Rattle.entry_verify.specs.Entries.Readings.{target_name}
use Rattle.entry_verify.proofs.OnEntries.EntriesFound.{has_no_nameless, target_known}
use Rattle.entry_verify.proofs.entries.targets.has_function.Goals as goal

pub returns-in-Some : goal.returns-in-Some
returns-in-Some c =
    let a = c.args.arena.now in
    c.is_function.ensures
    ∙ sym (has_function_told a c.variable_count-count.ensures.distinct c.in-Some.id (target_known a c.args.target c.in-Some.id c.requires c.in-Some.is))
    ∙ ap (λ o. has_function (module_of a) (target_name a o)) (sym c.in-Some.is)

pub returns-in-None : goal.returns-in-None
returns-in-None c =
    let a = c.args.arena.now in
    has_no_nameless a c.see_names.ensures.functions ∙ ap (λ o. has_function (module_of a) (target_name a o)) (sym c.in-None.is)
