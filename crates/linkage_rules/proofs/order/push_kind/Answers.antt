use Rattle.std.proofs.Common.{◌≡◌, ◌++◌, length, sym, ap, ◌∙◌, filter, append-nil, arith}
use Rattle.std.proofs.lemmas.List.{length-map, take_all}
use Rattle.indexmap.specs.IndexMap.{keys}
use Rattle.linkage_rules.specs.Grouped.{same_kind}
use Rattle.linkage_rules.proofs.Steps.{kept_step, told_at}
use Rattle.linkage_rules.proofs.order.push_kind.Goals as goal

pub loop-index-init : goal.loop-index-init
loop-index-init c = λ known told. sym (append-nil c.args.symbols.now)

pub loop-index-preserved : goal.loop-index-preserved
loop-index-preserved c = λ known told.
    let all = keys c.args.among.now in
    let k = c.loop-index.index in
    let s = c.symbol_at-symbol.result.now in
    kept_step (λ s. same_kind c.args.kind (known s)) all k s c.args.symbols.now c.loop-index.symbols _ _
    c.symbol_at-symbol.ensures (c.loop-index.invariant known told) c.in_ok-push_if.ensures (c.is_same-is_kept.ensures ∙ ap (same_kind c.args.kind) (told_at known c.args.kinds.now all k s _ told c.symbol_at-symbol.ensures))

pub returns : goal.returns
returns c = λ known told.
    let all = keys c.args.among.now in
    let many : length all ≡ length c.args.among.now.entries = length-map c.args.among.now.entries (λ r. r.0) in
    c.loop-index.invariant known told
    ∙ ap (λ left. c.args.symbols.now ++ filter (λ s. same_kind c.args.kind (known s)) left) (take_all c.loop-index.index all (omega (arith, many, c.len-count.ensures.len, c.loop-index-test.false)))
