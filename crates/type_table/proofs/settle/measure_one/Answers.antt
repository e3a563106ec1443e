use Rattle.std.proofs.Common.{◌-◌, ◌+◌, ◌<◌, ◌≤◌, ◌⊎◌, inl, inr, None, Some, sym, ap, ◌∙◌, arith, length}
use Rattle.std.proofs.lemmas.List.{length-map}
use Rattle.std.proofs.lemmas.Option.{get_or_from_slice_get}
use Rattle.indexmap.specs.IndexMap.{values}
use Rattle.type_table.specs.Measures.{body_measure}
use Rattle.type_table.proofs.SetFrom.{set_from-here, set_from-other}
use Rattle.type_table.proofs.settle.measure_one.Goals as goal
use Rattle.type_table.proofs.settle.measure_one.Goals.{else-first-index-via-then-first-index+else-index-first, else-first-index-via-else-first-index}

pub returns-then-index-first : goal.returns-then-index-first
returns-then-index-first c =
    let many = length-map c.args.structs.now.entries (λ s. s.1) in
    let here = set_from-here (values c.args.structs.now) c.args.first c.args.given.now c.args.index None c.index-given-index.result c.if-first-index.true (omega arith) (omega (arith, many, c.requires.within)) in
    c.measure_body.ensures
    ∙ ap (λ b. body_measure c.args.types.now c.args.had (Some b)) c.index-given-index.is
    ∙ ap (body_measure c.args.types.now c.args.had) (sym here)

pub returns-else-first-index : goal.returns-else-first-index
returns-else-first-index c =
    let out : (c.args.index < c.args.first) ⊎ (c.args.first + length c.args.given.now ≤ c.args.index) =
    elim c.else-first-index.branch [ else-first-index-via-then-first-index+else-index-first w ↦ inr (omega arith) | else-first-index-via-else-first-index w ↦ inl (omega arith) ] in
    c.measure_struct.ensures
    ∙ ap (body_measure c.args.types.now c.args.had)
    (sym (get_or_from_slice_get (values c.args.structs.now) c.args.index c.index.result.now None c.index.ensures)
    ∙ sym (set_from-other (values c.args.structs.now) c.args.first c.args.given.now c.args.index None out))
