use Rattle.std.proofs.Common.{◌≡◌, Some, slice_get, length, sym, ap, ◌∙◌, arith}
use Rattle.std.proofs.lemmas.Option.{slice_get-get_or}
use Rattle.linkage_rules.specs.Ids.{modules}
use Rattle.link_names.proofs.OnCounts.Sizes.{long_begins, long_ends, long_found, long_passed}
use Rattle.link_names.proofs.counts.appended.first_appended.Goals as goal

pub loop-symbol-init : goal.loop-symbol-init
loop-symbol-init c = long_begins (modules c.args.parts.now) c.as_slice-symbols.result.now (c.as_slice-symbols.ensures ∙ c.symbols.ensures ∙ c.requires.symbols)

pub loop-symbol-preserved : goal.loop-symbol-preserved
loop-symbol-preserved c =
    let ss = c.as_slice-symbols.result.now in
    let k = c.loop-symbol.symbol-index in
    let s = c.symbol-item.result in
    let at : slice_get ss k ≡ Some s = slice_get-get_or ss k s c.loop-symbol-test.true ∙ ap Some (sym c.symbol-item.is) in
    long_passed (modules c.args.parts.now) ss k s at c.loop-symbol.invariant (sym c.in_default.is ∙ c.too_long.ensures)

pub returns-in-Some : goal.returns-in-Some
returns-in-Some c =
    let ss = c.as_slice-symbols.result.now in
    let k = c.loop-symbol.symbol-index in
    let s = c.symbol-item.result in
    let at : slice_get ss k ≡ Some s = slice_get-get_or ss k s c.loop-symbol-test.true ∙ ap Some (sym c.symbol-item.is) in
    long_found (modules c.args.parts.now) ss k s at c.loop-symbol.invariant c.in-Some.bytes (sym c.in-Some.is ∙ c.too_long.ensures)

pub returns : goal.returns
returns c =
    let ss = c.as_slice-symbols.result.now in
    let end : c.loop-symbol.symbol-index ≡ length ss = omega (arith, c.loop-symbol-test.false, c.loop-symbol.auto.symbol-index-end) in
    long_ends (modules c.args.parts.now) ss c.loop-symbol.symbol-index end c.loop-symbol.invariant
