use Rattle.std.proofs.Common.{◌≡◌, IfOk, sym, ap, ◌∙◌, subst}
use Rattle.linkage_rules.specs.Entries.{symbol_in}
use Rattle.linkage_rules.specs.Grouped.{IsHome}
use Rattle.linkage_rules.specs.Ids.{modules}
use Rattle.linkage_rules.proofs.Standing.{home_known}
use Rattle.linkage_rules.proofs.OnResolving.AtHome.{behind_some, behind_none, alias_target, plain_target}
use Rattle.linkage_rules.proofs.OnResolving.SymbolNamed.{symbol_is}
use Rattle.linkage_rules.proofs.resolving.meaning.symbol_behind.Goals as goal

pub returns-in_default : goal.returns-in_default
returns-in_default c = sym (behind_none c.args.parts.now c.args.bindings.now.groups c.args.bindings.now.homes c.requires.groups c.requires.homes c.args.symbol (sym c.in_default.is ∙ c.home.ensures))

pub target_of-requires-clause-entry : goal.target_of-requires-clause-entry
target_of-requires-clause-entry c =
    (subst (IsHome c.args.parts.now) (sym c.home.ensures ∙ c.in-Some.is) (home_known c.args.parts.now c.args.bindings.now.groups c.args.bindings.now.homes c.requires.homes c.args.symbol)).0

pub returns-in-Alias : goal.returns-in-Alias
returns-in-Alias c =
    let parts = c.args.parts.now in
    let rows = c.args.bindings.now.groups in
    let homes = c.args.bindings.now.homes in
    let id = c.in-Some.id in
    let known = (subst (IsHome parts) (sym c.home.ensures ∙ c.in-Some.is) (home_known parts rows homes c.requires.homes c.args.symbol)).0 in
    subst (λ t. IfOk c.symbol_named.result (λ s. s ≡ t))
    (symbol_is parts rows c.requires.groups id.part c.target_of.result.now ∙ ap (symbol_in (modules parts) id.part) c.target_of.ensures ∙ sym (alias_target parts c.args.symbol id known c.in-Alias.is)
    ∙ sym (behind_some parts rows homes c.requires.groups c.requires.homes c.args.symbol id (sym c.in-Some.is ∙ c.home.ensures)))
    c.symbol_named.ensures

pub returns-in-Variable : goal.returns-in-Variable
returns-in-Variable c =
    let parts = c.args.parts.now in
    let rows = c.args.bindings.now.groups in
    let homes = c.args.bindings.now.homes in
    let id = c.in-Some.id in
    let known = (subst (IsHome parts) (sym c.home.ensures ∙ c.in-Some.is) (home_known parts rows homes c.requires.homes c.args.symbol)).0 in
    sym (behind_some parts rows homes c.requires.groups c.requires.homes c.args.symbol id (sym c.in-Some.is ∙ c.home.ensures) ∙ plain_target parts c.args.symbol id known c.in-Variable.is)
