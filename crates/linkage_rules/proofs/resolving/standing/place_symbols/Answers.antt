use Rattle.std.proofs.Common.{◌≡◌, ap, ◌∙◌, subst, filter}
use Rattle.linkage_rules.specs.declared.symbol.SymbolKind.TheVariants as kind
use Rattle.linkage_rules.specs.Grouped.{same_kind, kind_of}
use Rattle.linkage_rules.specs.Ids.{modules}
use Rattle.linkage_rules.specs.Symbols.{symbols}
use Rattle.linkage_rules.proofs.KindsAmong.{functions_among}
use Rattle.linkage_rules.specs.Resolving.Places.{ArePlaced}
use Rattle.linkage_rules.proofs.OnResolving.Placing.{all_rows}
use Rattle.linkage_rules.proofs.resolving.standing.place_symbols.Goals as goal

pub returns : goal.returns
returns c =
    let parts = modules c.args.parts.now in
    let is : c.as_slice-symbols.result.now ≡ symbols parts = c.as_slice-symbols.ensures ∙ c.symbols.ensures ∙ c.requires.symbols in
    record {
      variables = subst (λ rows. ArePlaced rows c.in_ok-variables.variables) (all_rows parts c.as_slice-symbols.result.now is) c.in_ok-variables.ensures;
      functions = c.in_ok-functions.ensures ∙ ap (filter (λ s. same_kind kind.Function (kind_of parts s))) is ∙ functions_among parts;
    }
