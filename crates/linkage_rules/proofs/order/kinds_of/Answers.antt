use Rattle.std.proofs.Common.{◌≡◌, ◌∷◌, ◌++◌, [], length, map, sym, ap, ◌∙◌, arith}
use Rattle.std.proofs.lemmas.List.{length-map, length_push, take_all}
use Rattle.indexmap.specs.IndexMap.{keys}
use Rattle.linkage_rules.specs.Grouped.{kind_of}
use Rattle.linkage_rules.specs.Ids.{modules}
use Rattle.linkage_rules.proofs.Steps.{map_step}
use Rattle.linkage_rules.proofs.order.kinds_of.Goals as goal

pub loop-index-preserved : goal.loop-index-preserved
loop-index-preserved c =
    let s = c.symbol_at-symbol.result.now in
    record {
      len = omega (arith, ap length c.in_ok-push.ensures.items, length_push c.loop-index.kinds.items c.kind_of.result, c.loop-index.invariant.len);
      kinds =
          c.in_ok-push.ensures.items
          ∙ (λ j. c.loop-index.invariant.kinds j ++ c.kind_of.ensures j ∷ [])
          ∙ sym (map_step (kind_of (modules c.args.parts.now)) (keys c.args.among.now) c.loop-index.index s c.symbol_at-symbol.ensures);
    }

pub returns-clause-kinds : goal.returns-clause-kinds
returns-clause-kinds c =
    let all = keys c.args.among.now in
    let many : length all ≡ length c.args.among.now.entries = length-map c.args.among.now.entries (λ r. r.0) in
    c.loop-index.invariant.kinds
    ∙ ap (map (kind_of (modules c.args.parts.now))) (take_all c.loop-index.index all (omega (arith, many, c.len-count.ensures.len, c.loop-index-test.false)))
