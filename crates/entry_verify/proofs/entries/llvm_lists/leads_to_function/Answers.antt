use Rattle.std.proofs.Common.{◌||◌, sym, ap, ◌∙◌, arith}
use Rattle.entry_verify.specs.Constants.FunctionIds.{is_function}
use Rattle.module_arena.specs.EntryRules.{has_alias_of_function}
use Rattle.entry_verify.proofs.OnConstants.FunctionNames.{has_function_told}
use Rattle.module_arena.specs.Lists.{name_at}
use Rattle.module_arena.specs.View.{module_of}
use Rattle.entry_verify.proofs.OnEntries.EntriesFound.{kind, alias_found, alias_known, no_alias}
use Rattle.entry_verify.proofs.entries.llvm_lists.leads_to_function.Goals as goal

pub has_function-requires : goal.has_function-requires
has_function-requires c =
    (alias_known c.args.arena.now c.variable_count-count.ensures.good c.in-Alias.id c.alias.result.now c.alias.ensures).target_known

pub returns-in-Function : goal.returns-in-Function
returns-in-Function c =
    let a = c.args.arena.now in
    sym (ap (λ b. b || has_alias_of_function (module_of a) (name_at a c.args.id)) (has_function_told a c.variable_count-count.ensures.distinct c.args.id c.requires ∙ ap is_function c.in-Function.is))

pub returns-in-Variable : goal.returns-in-Variable
returns-in-Variable c =
    let a = c.args.arena.now in
    let none = has_function_told a c.variable_count-count.ensures.distinct c.args.id c.requires ∙ ap is_function c.in-Variable.is in
    let nor = no_alias a c.variable_count-count.ensures.distinct c.args.id c.requires (λ e. let q = sym (ap kind c.in-Variable.is) ∙ e in absurd (omega (arith, q))) in
    nor ∙ sym (ap (λ b. b || has_alias_of_function (module_of a) (name_at a c.args.id)) none)

pub returns-in-Alias : goal.returns-in-Alias
returns-in-Alias c =
    let a = c.args.arena.now in
    let none = has_function_told a c.variable_count-count.ensures.distinct c.args.id c.requires ∙ ap is_function c.in-Alias.is in
    c.has_function.ensures
    ∙ alias_found a c.variable_count-count.ensures.distinct c.in-Alias.id c.alias.result.now c.alias.ensures
    ∙ ap (λ g. has_alias_of_function (module_of a) (name_at a g)) (sym c.in-Alias.is)
    ∙ sym (ap (λ b. b || has_alias_of_function (module_of a) (name_at a c.args.id)) none)
