use Rattle.std.specs.Prelude.{nat_eq, false}
use Rattle.std.proofs.Common.{◌≡◌, ℕ, ◌++◌, List, [], ◌∷◌, length, refl, sym, ap, ◌∙◌, subst, arith}
use Rattle.ir_tables.specs.Opcode.{opcode_code}
use Rattle.type_table.specs.Types.{tree}
use Rattle.module_arena.specs.declared.constant.Const.TheVariants as const
use Rattle.module_arena.specs.declared.constant.ConstAddress.{ConstAddress}
use Rattle.module_arena.specs.declared.constant.ConstPair.{ConstPair}
use Rattle.module_arena.specs.declared.constant.TypedConst.{TypedConst}
use Rattle.module_arena.specs.Lists.{name_at}
use Rattle.record_table.specs.Constants.{count_constants, integer_spell, spell_operands}
use Rattle.record_table.specs.Fields.{ty, global, text}
use Rattle.record_write.specs.Operands.Numbered.{indices, constants_in}
use Rattle.record_write.specs.Operands.Wide.{HasTyped}
use Rattle.record_write.proofs.OnOperands.Chain.{two, last2, last3, last4, reworded, part_more, part_end}
use Rattle.record_write.proofs.OnOperands.Parts.{top, below_top, top_within, all_parts, one_part, part_spelled, parts_spelled, typed_spelled, many_parts, one_stands, rest_of, first_part, stands_as, form_put, leaf_put}
use Rattle.record_write.proofs.operands.constants.+constants.Goals as goal

pub put_typed-returns : goal.put_typed-returns
put_typed-returns t c = λ stands. c.put_constant.ensures (tree c.args.numbering.now.table c.args.part.ty) (sym c.is_wide-wide.ensures) stands

pub put_index-returns : goal.put_index-returns
put_index-returns t c = λ stands.
    let a = c.args.numbering.now in
    last2 _ _ ((ty (indices a)).spell (tree a.table c.args.part.ty)) (part_spelled a c.args.part) _ _ c.in_ok-put_type.ensures (c.put_typed.ensures stands)

pub put_parts-put_typed-requires : goal.put_parts-put_typed-requires
put_parts-put_typed-requires t c =
    let deep = below_top c.args.parts.now c.parts.part-index c.part-item.result c.parts-test.true in
    let same = ap (λ (p : TypedConst). p.value) c.part-item.is in
    (omega (arith, deep, c.decreases, same), subst (HasTyped c.args.numbering.now) (sym c.part-item.is) (c.requires c.parts.part-index c.part-item.result c.parts-test.true))

pub put_parts-parts-preserved : goal.put_parts-parts-preserved
put_parts-parts-preserved t c = λ stands.
    let a = c.args.numbering.now in
    part_more (parts_spelled a) (part_spelled a) (λ x xs. refl) c.args.parts.now c.parts.part-index c.part-item.result _ _ _ c.parts-test.true c.part-item.is (c.parts.invariant stands)
    (c.in_ok-put_typed.ensures (one_stands a c.args.parts.now c.parts.part-index c.part-item.result stands c.parts-test.true c.part-item.is))

pub put_parts-returns : goal.put_parts-returns
put_parts-returns t c = λ stands.
    let a = c.args.numbering.now in
    let xs = c.args.parts.now in
    two _ (length xs ∷ []) (parts_spelled a xs) _ _ c.in_ok-put_count.ensures (part_end (parts_spelled a) (part_spelled a) (λ x xs. refl) refl xs c.parts.part-index _ _ (omega arith) (c.parts.invariant stands))

pub put_indices-put_index-requires : goal.put_indices-put_index-requires
put_indices-put_index-requires t c =
    let deep = below_top c.args.parts.now c.parts.part-index c.part-item.result c.parts-test.true in
    let same = ap (λ (p : TypedConst). p.value) c.part-item.is in
    (omega (arith, deep, c.decreases, same), subst (HasTyped c.args.numbering.now) (sym c.part-item.is) (c.requires c.parts.part-index c.part-item.result c.parts-test.true))

pub put_indices-parts-preserved : goal.put_indices-parts-preserved
put_indices-parts-preserved t c = λ stands.
    let a = c.args.numbering.now in
    let one = λ (x : TypedConst). (ty (indices a)).spell (tree a.table x.ty) ++ part_spelled a x in
    part_more (typed_spelled a) one (λ x xs. refl) c.args.parts.now c.parts.part-index c.part-item.result _ _ _ c.parts-test.true c.part-item.is (c.parts.invariant stands)
    (c.in_ok-put_index.ensures (one_stands a c.args.parts.now c.parts.part-index c.part-item.result stands c.parts-test.true c.part-item.is))

pub put_indices-returns : goal.put_indices-returns
put_indices-returns t c = λ stands.
    let a = c.args.numbering.now in
    let one = λ (x : TypedConst). (ty (indices a)).spell (tree a.table x.ty) ++ part_spelled a x in
    let xs = c.args.parts.now in
    two _ (length xs ∷ []) (typed_spelled a xs) _ _ c.in_ok-put_count.ensures (part_end (typed_spelled a) one (λ x xs. refl) refl xs c.parts.part-index _ _ (omega arith) (c.parts.invariant stands))

pub put_address-put_operands-requires : goal.put_address-put_operands-requires
put_address-put_operands-requires t c =
    let same = ap top c.as_slice.ensures in
    (omega (arith, c.decreases, same), rw c.as_slice.ensures c.requires.parts)

pub put_address-returns : goal.put_address-returns
put_address-returns t c = λ stands.
    let a = c.args.numbering.now in
    let source = (ty (indices a)).spell (tree a.table c.args.address.now.source) in
    last3 _ _ (c.args.flags ∷ []) source (spell_operands (indices a) (constants_in a c.args.address.now.operands)) _ _ _ c.in_ok-put_flags.ensures c.in_ok-put_type.ensures
    (reworded _ _ _ _ _ (c.put_operands.ensures (rw c.as_slice.ensures stands)) (ap (λ (ps : List TypedConst). spell_operands (indices a) (constants_in a ps)) c.as_slice.ensures))

pub put_cast-returns : goal.put_cast-returns
put_cast-returns t c = λ stands.
    let a = c.args.numbering.now in
    last2 _ _ (opcode_code c.args.opcode ∷ []) ((ty (indices a)).spell (tree a.table c.args.part.ty) ++ part_spelled a c.args.part) _ _ c.in_ok-put_opcode.ensures (c.put_index.ensures stands)

pub put_pair-returns : goal.put_pair-returns
put_pair-returns t c = λ left right.
    let a = c.args.numbering.now in
    last4 _ _ (opcode_code c.args.opcode ∷ []) (c.args.flags ∷ []) (part_spelled a c.args.pair.left) (part_spelled a c.args.pair.right) _ _ _ _ c.in_ok-put_opcode.ensures c.in_ok-put_flags.ensures (c.in_ok-put_typed.ensures left) (c.put_typed-2.ensures right)

pub put_operands-returns : goal.put_operands-returns
put_operands-returns t c = λ stands.
    let a = c.args.numbering.now in
    let parts = c.args.parts.now in
    let base = c.index-parts-0.result in
    let some : nat_eq (length parts) 0 ≡ false = sym c.is_empty.ensures ∙ c.if-is_empty.false in
    let here = first_part a parts base some c.index-parts-0.is stands in
    reworded _ _ _ _ _ (last2 _ _ (part_spelled a base) (length (rest_of parts) ∷ typed_spelled a (rest_of parts)) _ _ (c.in_ok-put_typed.ensures here.0) (c.put_indices.ensures here.1)) here.2

pub put_constant-put_parts-requires : goal.put_constant-put_parts-requires
put_constant-put_parts-requires t c =
    let known = rw c.in-Aggregate.is at c.constant-known.ensures.known in
    let high = top_within _ _ c.args.id known.typed_known in
    let same = ap top c.as_slice.ensures in
    (omega (arith, high, c.decreases, same), rw c.as_slice.ensures (all_parts c.args.numbering.now c.args.id _ c.requires known.typed_known))

pub put_constant-put_address-requires : goal.put_constant-put_address-requires
put_constant-put_address-requires t c =
    let known = rw c.in-ElementAddress.is at c.constant-known.ensures.known in
    let high = top_within _ _ c.args.id known.typed_known in
    let same = ap (λ (x : ConstAddress). top x.operands) c.get.ensures in (
      omega (arith, high, c.decreases, same),
      (
        rw c.get.ensures (known.types_known 0 c.in-ElementAddress.address.source (omega arith)),
        rw c.get.ensures (all_parts c.args.numbering.now c.args.id _ c.requires known.typed_known),
      ),
    )

pub put_constant-put_cast-requires : goal.put_constant-put_cast-requires
put_constant-put_cast-requires t c =
    let known = rw c.in-Cast.is at c.constant-known.ensures.known in
    let part = known.typed_known 0 c.in-Cast.part (omega arith) in
    let deep = part.1 in
    (omega (arith, deep, c.decreases), one_part c.args.numbering.now c.args.id c.in-Cast.part c.requires part)

pub put_constant-put_pair-requires : goal.put_constant-put_pair-requires
put_constant-put_pair-requires t c =
    let known = rw c.in-Binary.is at c.constant-known.ensures.known in
    let left = known.typed_known 0 c.in-Binary.pair.left (omega arith) in
    let right = known.typed_known 1 c.in-Binary.pair.left (omega arith) in
    let left_deep = left.1 in
    let right_deep = right.1 in
    let same_left = ap (λ (p : ConstPair). p.left.value) c.get-in-Binary.ensures in
    let same_right = ap (λ (p : ConstPair). p.right.value) c.get-in-Binary.ensures in (
      omega (arith, left_deep, right_deep, c.decreases, same_left, same_right),
      (
        rw c.get-in-Binary.ensures (one_part c.args.numbering.now c.args.id c.in-Binary.pair.left c.requires left),
        rw c.get-in-Binary.ensures (one_part c.args.numbering.now c.args.id c.in-Binary.pair.right c.requires right),
      ),
    )

pub put_constant-put_global-requires : goal.put_constant-put_global-requires
put_constant-put_global-requires t c =
    let known = rw c.in-Address.is at c.constant-known.ensures.known in
    known.globals_known 0 c.in-Address.entry (omega arith)

pub put_constant-returns-in-Integer : goal.put_constant-returns-in-Integer
put_constant-returns-in-Integer t c = λ at wide stands.
    let a = c.args.numbering.now in
    let form = const.Integer c.in-Integer.number in
    let here = c.constant-known.ensures.here in
    let stood = stands_as a at c.args.id c.constant-known.result.now form here c.in-Integer.is stands in
    form_put a at c.args.id c.constant-known.result.now form (integer_spell at c.in-Integer.number) here c.in-Integer.is refl _ _ _ _ c.in_ok-put_form.ensures (c.put_integer.ensures at wide stood)

pub put_constant-returns-in-Address : goal.put_constant-returns-in-Address
put_constant-returns-in-Address t c = λ at wide stands.
    let a = c.args.numbering.now in
    let form = const.Address c.in-Address.entry in
    let here = c.constant-known.ensures.here in
    let stood = stands_as a at c.args.id c.constant-known.result.now form here c.in-Address.is stands in
    form_put a at c.args.id c.constant-known.result.now form ((global (indices a)).spell (name_at a c.in-Address.entry)) here c.in-Address.is refl _ _ _ _ c.in_ok-put_form.ensures (c.put_global.ensures)

pub put_constant-returns-in-ByteString : goal.put_constant-returns-in-ByteString
put_constant-returns-in-ByteString t c = λ at wide stands.
    let a = c.args.numbering.now in
    let form = const.ByteString c.in-ByteString.bytes in
    let here = c.constant-known.ensures.here in
    let stood = stands_as a at c.args.id c.constant-known.result.now form here c.in-ByteString.is stands in
    form_put a at c.args.id c.constant-known.result.now form (text.spell c.in-ByteString.bytes) here c.in-ByteString.is refl _ _ _ _ c.in_ok-put_form.ensures (reworded _ _ _ _ _ c.put_bytes.ensures (ap (λ (bs : List ℕ). text.spell bs) c.bytes.ensures))

pub put_constant-returns-in-Aggregate : goal.put_constant-returns-in-Aggregate
put_constant-returns-in-Aggregate t c = λ at wide stands.
    let a = c.args.numbering.now in
    let form = const.Aggregate c.in-Aggregate.field-0 c.in-Aggregate.parts in
    let here = c.constant-known.ensures.here in
    let stood = stands_as a at c.args.id c.constant-known.result.now form here c.in-Aggregate.is stands in
    form_put a at c.args.id c.constant-known.result.now form (count_constants (constants_in a c.in-Aggregate.parts) ∷ parts_spelled a c.in-Aggregate.parts) here c.in-Aggregate.is refl _ _ _ _ c.in_ok-put_form.ensures (reworded _ _ _ _ _ (c.put_parts.ensures (rw c.as_slice.ensures stood)) (ap (λ (ps : List TypedConst). length ps ∷ parts_spelled a ps) c.as_slice.ensures ∙ ap (λ (n : ℕ). n ∷ parts_spelled a c.in-Aggregate.parts) (sym (many_parts a c.in-Aggregate.parts))))

pub put_constant-returns-in-ElementAddress : goal.put_constant-returns-in-ElementAddress
put_constant-returns-in-ElementAddress t c = λ at wide stands.
    let a = c.args.numbering.now in
    let form = const.ElementAddress c.in-ElementAddress.flags c.in-ElementAddress.address in
    let here = c.constant-known.ensures.here in
    let stood = stands_as a at c.args.id c.constant-known.result.now form here c.in-ElementAddress.is stands in
    form_put a at c.args.id c.constant-known.result.now form (c.in-ElementAddress.flags ∷ (ty (indices a)).spell (tree a.table c.in-ElementAddress.address.source) ++ spell_operands (indices a) (constants_in a c.in-ElementAddress.address.operands)) here c.in-ElementAddress.is refl _ _ _ _ c.in_ok-put_form.ensures (reworded _ _ _ _ _ (c.put_address.ensures (rw c.get.ensures stood)) (ap (λ (x : ConstAddress). c.in-ElementAddress.flags ∷ (ty (indices a)).spell (tree a.table x.source) ++ spell_operands (indices a) (constants_in a x.operands)) c.get.ensures))

pub put_constant-returns-in-Cast : goal.put_constant-returns-in-Cast
put_constant-returns-in-Cast t c = λ at wide stands.
    let a = c.args.numbering.now in
    let form = const.Cast c.in-Cast.opcode c.in-Cast.part c.in-Cast.field-2 in
    let here = c.constant-known.ensures.here in
    let stood = stands_as a at c.args.id c.constant-known.result.now form here c.in-Cast.is stands in
    form_put a at c.args.id c.constant-known.result.now form (opcode_code c.in-Cast.opcode ∷ (ty (indices a)).spell (tree a.table c.in-Cast.part.ty) ++ part_spelled a c.in-Cast.part) here c.in-Cast.is refl _ _ _ _ c.in_ok-put_form.ensures (c.put_cast.ensures stood)

pub put_constant-returns-in-Binary : goal.put_constant-returns-in-Binary
put_constant-returns-in-Binary t c = λ at wide stands.
    let a = c.args.numbering.now in
    let form = const.Binary c.in-Binary.opcode c.in-Binary.flags c.in-Binary.pair in
    let here = c.constant-known.ensures.here in
    let stood = stands_as a at c.args.id c.constant-known.result.now form here c.in-Binary.is stands in
    form_put a at c.args.id c.constant-known.result.now form (opcode_code c.in-Binary.opcode ∷ c.in-Binary.flags ∷ part_spelled a c.in-Binary.pair.left ++ part_spelled a c.in-Binary.pair.right) here c.in-Binary.is refl _ _ _ _ c.in_ok-put_form.ensures (reworded _ _ _ _ _ (c.put_pair.ensures (rw c.get-in-Binary.ensures stood.0) (rw c.get-in-Binary.ensures stood.1)) (ap (λ (p : ConstPair). opcode_code c.in-Binary.opcode ∷ c.in-Binary.flags ∷ part_spelled a p.left ++ part_spelled a p.right) c.get-in-Binary.ensures))

pub put_constant-returns-in-Truth : goal.put_constant-returns-in-Truth
put_constant-returns-in-Truth t c = λ at wide stands. leaf_put c.args.numbering.now at c.args.id c.constant-known.result.now c.constant-known.ensures.here (rw c.in-Truth.is refl) _ _ c.in_ok-put_form.ensures

pub put_constant-returns-in-Null : goal.put_constant-returns-in-Null
put_constant-returns-in-Null t c = λ at wide stands. leaf_put c.args.numbering.now at c.args.id c.constant-known.result.now c.constant-known.ensures.here (rw c.in-Null.is refl) _ _ c.in_ok-put_form.ensures

pub put_constant-returns-in-Undef : goal.put_constant-returns-in-Undef
put_constant-returns-in-Undef t c = λ at wide stands. leaf_put c.args.numbering.now at c.args.id c.constant-known.result.now c.constant-known.ensures.here (rw c.in-Undef.is refl) _ _ c.in_ok-put_form.ensures

pub put_constant-returns-in-Poison : goal.put_constant-returns-in-Poison
put_constant-returns-in-Poison t c = λ at wide stands. leaf_put c.args.numbering.now at c.args.id c.constant-known.result.now c.constant-known.ensures.here (rw c.in-Poison.is refl) _ _ c.in_ok-put_form.ensures

pub put_constant-returns-in-ZeroInitializer : goal.put_constant-returns-in-ZeroInitializer
put_constant-returns-in-ZeroInitializer t c = λ at wide stands. leaf_put c.args.numbering.now at c.args.id c.constant-known.result.now c.constant-known.ensures.here (rw c.in-ZeroInitializer.is refl) _ _ c.in_ok-put_form.ensures
