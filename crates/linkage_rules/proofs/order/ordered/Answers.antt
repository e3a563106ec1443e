use Rattle.std.proofs.Common.{◌≡◌, List, ◌++◌, ap, ◌∙◌, filter, map}
use Rattle.indexmap.specs.IndexMap.{keys}
use Rattle.linkage_rules.specs.declared.symbol.SymbolKind.{SymbolKind}
use Rattle.linkage_rules.specs.declared.symbol.SymbolKind.TheVariants as kind
use Rattle.linkage_rules.specs.Entries.{Symbol}
use Rattle.linkage_rules.specs.Grouped.{same_kind, kind_of}
use Rattle.linkage_rules.specs.Ids.{modules}
use Rattle.linkage_rules.proofs.Ordered.{in_order}
use Rattle.linkage_rules.proofs.order.ordered.Goals as goal

pub returns : goal.returns
returns c =
    let parts = modules c.args.parts.now in
    let all = keys c.args.groups.now in
    let known : Symbol → SymbolKind = λ s. kind_of parts s in
    let own : c.as_slice-own.result.now ≡ map known all = c.as_slice-own.ensures.value ∙ c.in_ok-kinds.ensures.kinds in
    let others : c.as_slice-others.result.now ≡ map known (keys c.args.aliases.now) = c.as_slice-others.ensures.value ∙ c.in_ok-alias_kinds.ensures.kinds in
    let variables : List Symbol = filter (λ s. same_kind kind.Variable (kind_of parts s)) all in
    let functions : List Symbol = filter (λ s. same_kind kind.Function (kind_of parts s)) all in
    let aliases : List Symbol = filter (λ s. same_kind kind.Alias (kind_of parts s)) (keys c.args.aliases.now) in
    c.in_ok-push_kind-3.ensures known others
    ∙ ap (λ l. l ++ aliases) (c.in_ok-push_kind-2.ensures known own ∙ ap (λ l. l ++ functions) (c.in_ok-push_kind.ensures known own ∙ ap (λ l. l ++ variables) c.new-all.ensures))
    ∙ in_order parts all (keys c.args.aliases.now) c.requires.groups.keys c.requires.aliases
