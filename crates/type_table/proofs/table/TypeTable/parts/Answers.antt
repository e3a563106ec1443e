use Rattle.std.proofs.Common.{arith, ap, sym, ◌∙◌, get_or, length, None}
use Rattle.std.proofs.lemmas.Option.{get_or_from_slice_get}
use Rattle.indexmap.specs.IndexMap.{values}
use Rattle.type_table.specs.Outline.{body_parts, parts_of}
use Rattle.type_table.specs.Types.{Types}
use Rattle.type_table.proofs.Outlined.{named_in}
use Rattle.type_table.proofs.table.TypeTable.parts.Goals as goal

pub index-requires-in-Named : goal.index-requires-in-Named
index-requires-in-Named c =
    let many = ap (λ (t : Types). length t.types) c.self.view_is in
    let named = named_in _ c.self.invariant.kept.measured.good c.args.ty _ c.in-Named.id _ c.index.ensures c.number.ensures (omega (arith, many, c.requires)) c.in-Named.is in
    omega (arith, named.0, c.number-in-Named.ensures)

pub returns-in-Named : goal.returns-in-Named
returns-in-Named c =
    let many = ap (λ (t : Types). length t.types) c.self.view_is in
    let named = named_in _ c.self.invariant.kept.measured.good c.args.ty _ c.in-Named.id _ c.index.ensures c.number.ensures (omega (arith, many, c.requires)) c.in-Named.is in
    let body = sym (get_or_from_slice_get (values c.self.inside.structs) _ _ None c.index-in-Named.ensures)
    ∙ ap (λ i. get_or (values c.self.inside.structs) i None) c.number-in-Named.ensures in
    c.parts_of_body.ensures ∙ ap body_parts body ∙ sym named.2 ∙ ap (λ t. parts_of t c.args.ty) c.self.view_is
