use Rattle.std.proofs.Common.{Some, ap, ◌∙◌}
use Rattle.linkage_rules.specs.Bind.{own_meaning, behind}
use Rattle.linkage_rules.specs.Ids.{modules}
use Rattle.linkage_rules.proofs.OnResolving.SymbolNamed.{symbol_is}
use Rattle.linkage_rules.proofs.resolving.meaning.meaning.Goals as goal

pub returns : goal.returns
returns c =
    let parts = c.args.parts.now in
    c.own_meaning.ensures
    ∙ ap (λ s. Some (own_meaning (modules parts) s))
    (c.in_ok-symbol-2.ensures ∙ ap (behind (modules parts)) (c.in_ok-symbol.ensures ∙ symbol_is parts c.args.bindings.now.groups c.requires.bindings.groups c.args.part c.args.name.now))
