use Rattle.std.proofs.Common.{◌≡◌, false, sym, subst}
use Rattle.extract_rules.specs.Extracted.{is_constant}
use Rattle.module_arena.specs.Known.{HasGlobal, counts}
use Rattle.module_arena.specs.Lists.{name_at}
use Rattle.module_arena.specs.View.{module_of}
use Rattle.extract_core.proofs.OnPart.AliasesDeclared.{variable_constant, function_not_constant, alias_not_constant}
use Rattle.extract_core.proofs.part.aliases.is_constant.Goals as goal

pub returns-in-Variable : goal.returns-in-Variable
returns-in-Variable c =
    let a = c.args.from.now in
    subst (λ g. c.variable.result.now.constant ≡ is_constant (module_of a) (name_at a g)) (sym c.in-Variable.is)
    (variable_constant a c.variable_count-count.ensures.distinct c.in-Variable.id c.variable.result.now c.variable.ensures)

pub returns-in-Function : goal.returns-in-Function
returns-in-Function c =
    let a = c.args.from.now in
    subst (λ g. false ≡ is_constant (module_of a) (name_at a g)) (sym c.in-Function.is)
    (function_not_constant a c.variable_count-count.ensures.distinct c.in-Function.field-0 (subst (HasGlobal (counts a)) c.in-Function.is c.requires))

pub returns-in-Alias : goal.returns-in-Alias
returns-in-Alias c =
    let a = c.args.from.now in
    subst (λ g. false ≡ is_constant (module_of a) (name_at a g)) (sym c.in-Alias.is)
    (alias_not_constant a c.variable_count-count.ensures.distinct c.in-Alias.field-0 (subst (HasGlobal (counts a)) c.in-Alias.is c.requires))
