use Rattle.std.proofs.Common.{◌≡◌, sym, ap, ◌∙◌, length, get_or}
use Rattle.std.proofs.lemmas.List.{length-map}
use Rattle.indexmap.specs.IndexMap.{values}
use Rattle.type_table.specs.Measures.{opaque_measure}
use Rattle.type_table.specs.Batch.{set_from}
use Rattle.type_table.proofs.PassLists.{length-struct_measures}
use Rattle.type_table.proofs.SetFrom.{length-set_from, open_pass}
use Rattle.type_table.proofs.settle.at_rest.Goals as goal

pub passes-preserved : goal.passes-preserved
passes-preserved c =
    let all = set_from (values c.args.structs.now) c.args.first c.args.given.now in
    let types = c.deref-in-passes.result.now in
    let hads = c.deref-in-passes-2.result.now in
    let before = c.deref-in-passes-2.ensures.value in
    let many_all : length (set_from (values c.args.structs.now) c.args.first c.args.given.now) ≡ length c.args.structs.now.entries =
    length-set_from (values c.args.structs.now) c.args.first c.args.given.now ∙ length-map c.args.structs.now.entries (λ s. s.1) in
    let many = ap length before ∙ c.passes.invariant.many ∙ sym many_all in
    record {
      many = ap length c.in_ok-again.ensures ∙ length-struct_measures types hads all many ∙ many_all;
      open_kept = λ k is.
          ap (λ ms. get_or ms k opaque_measure) c.in_ok-again.ensures
          ∙ open_pass types hads all k many is
          ∙ ap (λ ms. get_or ms k opaque_measure) before
          ∙ c.passes.invariant.open_kept k is;
    }
