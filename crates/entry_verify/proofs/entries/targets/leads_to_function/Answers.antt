use Rattle.std.proofs.Common.{sym, ap, ◌∙◌, arith}
use Rattle.std.specs.List.{list_any}
use Rattle.module_arena.specs.EntryRules.{is_lasting_function}
use Rattle.module_arena.specs.Lists.{name_at}
use Rattle.module_arena.specs.View.{module_of}
use Rattle.entry_verify.proofs.OnEntries.EntriesFound.{kind, function_found, no_function}
use Rattle.entry_verify.proofs.entries.targets.leads_to_function.Goals as goal

pub returns-in-Function : goal.returns-in-Function
returns-in-Function c =
    let a = c.args.arena.now in
    c.is_lasting_function.ensures
    ∙ function_found a c.variable_count-count.ensures.distinct c.in-Function.id c.function.result.now c.function.ensures
    ∙ ap (λ g. list_any (is_lasting_function (name_at a g)) (module_of a).functions) (sym c.in-Function.is)

pub returns-in-Variable : goal.returns-in-Variable
returns-in-Variable c = no_function c.args.arena.now c.variable_count-count.ensures.distinct c.args.id c.requires (λ e. let q = sym (ap kind c.in-Variable.is) ∙ e in absurd (omega (arith, q)))

pub returns-in-Alias : goal.returns-in-Alias
returns-in-Alias c = no_function c.args.arena.now c.variable_count-count.ensures.distinct c.args.id c.requires (λ e. let q = sym (ap kind c.in-Alias.is) ∙ e in absurd (omega (arith, q)))
