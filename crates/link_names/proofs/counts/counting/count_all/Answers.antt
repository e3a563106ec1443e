use Rattle.std.proofs.Common.{◌≡◌, Some, slice_get, length, sym, ap, ◌∙◌, arith}
use Rattle.std.proofs.lemmas.Option.{slice_get-get_or}
use Rattle.linkage_rules.specs.Ids.{modules}
use Rattle.linkage_rules.specs.declared.symbol.SymbolKind.TheVariants as kind
use Rattle.link_names.proofs.OnCounts.Counted.{count_more, count_whole}
use Rattle.link_names.proofs.counts.counting.count_all.Goals as goal

pub loop-symbol-preserved : goal.loop-symbol-preserved
loop-symbol-preserved c =
    let ms = modules c.args.parts.now in
    let ss = c.args.symbols.now in
    let k = c.loop-symbol.symbol-index in
    let s = c.symbol-item.result in
    let at : slice_get ss k ≡ Some s = slice_get-get_or ss k s c.loop-symbol-test.true ∙ ap Some (sym c.symbol-item.is) in
    record {
      variables = count_more ms kind.Variable ss k s c.loop-symbol.counts.variables c.with_one-counts.result.variables c.kind.result at c.kind.ensures c.loop-symbol.invariant.variables c.with_one-counts.ensures.variables;
      functions = count_more ms kind.Function ss k s c.loop-symbol.counts.functions c.with_one-counts.result.functions c.kind.result at c.kind.ensures c.loop-symbol.invariant.functions c.with_one-counts.ensures.functions;
      all = omega (arith, c.with_one-counts.ensures.all, c.loop-symbol.invariant.all);
    }

pub returns-clause-variables : goal.returns-clause-variables
returns-clause-variables c =
    let ss = c.args.symbols.now in
    let end : c.loop-symbol.symbol-index ≡ length ss = omega (arith, c.loop-symbol-test.false, c.loop-symbol.auto.symbol-index-end) in
    count_whole (modules c.args.parts.now) kind.Variable ss c.loop-symbol.symbol-index c.loop-symbol.counts.variables end c.loop-symbol.invariant.variables

pub returns-clause-functions : goal.returns-clause-functions
returns-clause-functions c =
    let ss = c.args.symbols.now in
    let end : c.loop-symbol.symbol-index ≡ length ss = omega (arith, c.loop-symbol-test.false, c.loop-symbol.auto.symbol-index-end) in
    count_whole (modules c.args.parts.now) kind.Function ss c.loop-symbol.symbol-index c.loop-symbol.counts.functions end c.loop-symbol.invariant.functions
