use Rattle.std.proofs.Common.{◌&&◌, Some, sym, ap, ◌∙◌}
use Rattle.type_table.specs.declared.ir_type.IrType.TheVariants as type
use Rattle.module_arena.proofs.HostTypesAgree.{no_pair, packed_pair, other_pair, pair_is, parts_known, two_fields, field_known}
use Rattle.module_arena.proofs.host.is_pair.Goals as goal

pub returns-in_default : goal.returns-in_default
returns-in_default c = sym (no_pair c.args.types.now c.args.ty c.get.result.now c.args.width c.type_count-count.ensures.good c.get.ensures c.in_default.not-Struct)

pub returns-then-packed : goal.returns-then-packed
returns-then-packed c =
    sym (packed_pair c.args.types.now c.args.ty c.in-Struct.fields c.args.width c.type_count-count.ensures.good
    (c.get.ensures ∙ ap Some (c.in-Struct.is ∙ ap (λ packed. type.Struct packed c.in-Struct.fields) c.if-packed.true)))

pub returns-then-len-ne2 : goal.returns-then-len-ne2
returns-then-len-ne2 c =
    sym (other_pair c.args.types.now c.args.ty c.in-Struct.fields c.args.width c.type_count-count.ensures.good
    (c.get.ensures ∙ ap Some (c.in-Struct.is ∙ ap (λ packed. type.Struct packed c.in-Struct.fields) c.if-packed.false))
    (λ e. c.if-len-ne2.true (c.len.ensures ∙ e)))

pub get-requires-2 : goal.get-requires-2
get-requires-2 c =
    field_known _ c.in-Struct.fields 0 _ (parts_known c.args.types.now c.args.ty c.in-Struct.packed c.in-Struct.fields c.type_count-count.ensures.good (c.get.ensures ∙ ap Some c.in-Struct.is)) c.at-first.ensures

pub get-requires-3 : goal.get-requires-3
get-requires-3 c =
    field_known _ c.in-Struct.fields 1 _ (parts_known c.args.types.now c.args.ty c.in-Struct.packed c.in-Struct.fields c.type_count-count.ensures.good (c.get.ensures ∙ ap Some c.in-Struct.is)) c.at-second.ensures

pub returns : goal.returns
returns c =
    let two = two_fields c.in-Struct.fields c.at-first.result.now c.at-second.result.now (sym c.len.ensures ∙ c.if-len-ne2.false) c.at-first.ensures c.at-second.ensures in
    (λ j. c.is_of-is_number.ensures j && c.is_of-is_bit.ensures j)
    ∙ pair_is c.args.types.now c.args.ty c.at-first.result.now c.at-second.result.now c.get-2.result.now c.get-3.result.now c.args.width c.type_count-count.ensures.good
    (c.get.ensures ∙ ap Some (c.in-Struct.is ∙ (λ j. type.Struct (c.if-packed.false j) (two j))))
    c.get-2.ensures c.get-3.ensures
