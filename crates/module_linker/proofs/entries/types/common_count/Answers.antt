use Rattle.std.proofs.Common.{◌+◌, sym, ap, ◌∙◌, arith}
use Rattle.std.proofs.lemmas.Option.{slice_get-get_or}
use Rattle.module_linker.proofs.OnEntries.Commons.{common_more, common_same}
use Rattle.module_linker.proofs.entries.types.common_count.Goals.{then-is_common, else-is_common}
use Rattle.module_linker.proofs.entries.types.common_count.Goals as goal

pub ids-preserved : goal.ids-preserved
ids-preserved c =
    let ids = c.args.ids.now in
    let k = c.ids.id-index in
    let few = c.ids.invariant.few in
    elim c.if-is_common.branch [
      | then-is_common w ↦ record {
        few = omega (arith, few, w.count-is);
        counted = w.count-is ∙ ap (λ n. n + 1) c.ids.invariant.counted ∙ sym (common_more c.args.parts.now ids k _ (slice_get-get_or ids k _ c.ids-test.true) (sym c.is_common.ensures ∙ w.if-is_common.true));
      }
      | else-is_common w ↦ record {
        few = omega (arith, few, w.count-is);
        counted = w.count-is ∙ c.ids.invariant.counted ∙ sym (common_same c.args.parts.now ids k _ (slice_get-get_or ids k _ c.ids-test.true) (sym c.is_common.ensures ∙ w.if-is_common.false));
      }
    ]
