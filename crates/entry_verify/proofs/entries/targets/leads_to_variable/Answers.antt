use Rattle.std.proofs.Common.{sym, ap, ◌∙◌, arith}
use Rattle.std.specs.List.{list_any}
use Rattle.module_arena.specs.EntryRules.{is_lasting_variable}
use Rattle.module_arena.specs.Lists.{name_at}
use Rattle.module_arena.specs.View.{module_of}
use Rattle.entry_verify.proofs.OnEntries.EntriesFound.{kind, variable_found, no_variable}
use Rattle.entry_verify.proofs.entries.targets.leads_to_variable.Goals as goal

pub returns-in-Variable : goal.returns-in-Variable
returns-in-Variable c =
    let a = c.args.arena.now in
    c.is_lasting_variable.ensures
    ∙ variable_found a c.variable_count-count.ensures.distinct c.in-Variable.id c.variable.result.now c.variable.ensures
    ∙ ap (λ g. list_any (is_lasting_variable (name_at a g)) (module_of a).variables) (sym c.in-Variable.is)

pub returns-in-Function : goal.returns-in-Function
returns-in-Function c = no_variable c.args.arena.now c.variable_count-count.ensures.distinct c.args.id c.requires (λ e. let q = sym (ap kind c.in-Function.is) ∙ e in absurd (omega (arith, q)))

pub returns-in-Alias : goal.returns-in-Alias
returns-in-Alias c = no_variable c.args.arena.now c.variable_count-count.ensures.distinct c.args.id c.requires (λ e. let q = sym (ap kind c.in-Alias.is) ∙ e in absurd (omega (arith, q)))
