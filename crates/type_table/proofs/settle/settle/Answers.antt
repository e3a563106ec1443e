use Rattle.std.proofs.Common.{sym, ap, ◌∙◌, ◌≡◌, length}
use Rattle.std.proofs.lemmas.List.{length-map}
use Rattle.indexmap.specs.IndexMap.{values}
use Rattle.type_table.proofs.PassLists.{passes-zero, pass_next, length-struct_measures}
use Rattle.type_table.proofs.settle.settle.Goals as goal

pub loop-pass-init : goal.loop-pass-init
loop-pass-init c = record { many = c.requires; made = sym (passes-zero c.args.types.now (values c.args.structs.now) c.args.start.items) }

pub loop-pass-preserved : goal.loop-pass-preserved
loop-pass-preserved c =
    let bodies = values c.args.structs.now in
    let as_many : length (values c.args.structs.now) ≡ length c.args.structs.now.entries = length-map c.args.structs.now.entries (λ s. s.1) in
    let many = ap length c.in_ok-measured.ensures
    ∙ length-struct_measures c.deref-in-loop-pass.result.now c.deref-in-loop-pass-2.result.now bodies (ap length c.deref-in-loop-pass-2.ensures.value ∙ c.loop-pass.invariant.many ∙ sym as_many)
    ∙ as_many in
    record {
      many = many;
      made = pass_next c.args.types.now bodies c.args.start.items c.loop-pass.measured.items c.deref.result.now c.in_ok-measured_types.measured_types.items
          c.deref-in-loop-pass.result.now c.deref-in-loop-pass-2.result.now c.in_ok-measured.measured.items c.loop-pass._pass
          c.loop-pass.invariant.made c.deref.ensures.value c.in_ok-measured_types.ensures c.deref-in-loop-pass.ensures.value c.deref-in-loop-pass-2.ensures.value c.in_ok-measured.ensures;
    }
