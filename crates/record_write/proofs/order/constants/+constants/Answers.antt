use Rattle.std.proofs.Common.{List, ◌++◌, flat_map, length, get_or, false, Some, refl, sym, ap, ◌∙◌, arith}
use Rattle.type_table.specs.Tree.{Tree}
use Rattle.module_arena.specs.declared.constant.ConstAddress.{ConstAddress}
use Rattle.module_arena.specs.declared.constant.ConstPair.{ConstPair}
use Rattle.module_arena.proofs.ConstantsTold.{const_known}
use Rattle.record_write.proofs.OnOrder.ConstantParts.{top, below_top, top_within, part_known, parts_known, constants_flat, written_here}
use Rattle.record_write.proofs.OnOrder.KnownParts.{item_known}
use Rattle.record_write.proofs.OnOrder.Going.{goes_none, goes_end, goes_as, goes_more, goes_all, goes_same, goes_gone, goes_marked}
use Rattle.record_write.specs.Order.Written.{in_type, in_typed, KnowsTyped}
use Rattle.record_write.proofs.order.constants.+constants.Goals as goal

pub note_constants-loop-part-init : goal.note_constants-loop-part-init
note_constants-loop-part-init t c = goes_none c.requires.ready

pub note_constants-note_typed-requires : goal.note_constants-note_typed-requires
note_constants-note_typed-requires t c =
    let deep = below_top c.args.parts.now c.loop-part.part-index c.part-item.result c.loop-part-test.true in
    let same = ap (λ p. p.value) c.part-item.is in
    (omega (arith, deep, c.decreases, same), (c.loop-part.invariant.ready, item_known (KnowsTyped c.args.arena.now) c.args.parts.now c.loop-part.part-index c.part-item.result c.loop-part-test.true c.part-item.is c.requires.parts))

pub note_constants-loop-part-preserved : goal.note_constants-loop-part-preserved
note_constants-loop-part-preserved t c = goes_more (in_typed c.args.arena.now) c.args.parts.now c.loop-part.part-index c.part-item.result c.loop-part-test.true c.part-item.is c.loop-part.invariant c.in_ok-note_typed.ensures

pub note_constants-returns : goal.note_constants-returns
note_constants-returns t c = goes_all (in_typed c.args.arena.now) c.args.parts.now c.loop-part.part-index c.loop-part-test.false c.loop-part.invariant

pub note_typed-note_type-requires : goal.note_typed-note_type-requires
note_typed-note_type-requires t c = record { ready = c.requires.ready; ty = c.requires.part.0 }

pub note_typed-note_constant-requires : goal.note_typed-note_constant-requires
note_typed-note_constant-requires t c = (omega (arith, c.decreases), (c.in_ok-note_type.ensures.ready, c.requires.part.1))

pub note_typed-returns : goal.note_typed-returns
note_typed-returns t c = goes_end _ _ _ _ c.note_constant.result c.in_ok-note_type.ensures refl refl c.note_constant.ensures

pub note_pair-note_typed-requires : goal.note_pair-note_typed-requires
note_pair-note_typed-requires t c = (omega (arith, c.decreases), (c.requires.ready, c.requires.left))

pub note_pair-note_typed-requires-2 : goal.note_pair-note_typed-requires-2
note_pair-note_typed-requires-2 t c = (omega (arith, c.decreases), (c.in_ok-note_typed.ensures.ready, c.requires.right))

pub note_pair-returns : goal.note_pair-returns
note_pair-returns t c = goes_end _ _ _ _ c.note_typed-2.result c.in_ok-note_typed.ensures refl refl c.note_typed-2.ensures

pub note_address-note_type-requires : goal.note_address-note_type-requires
note_address-note_type-requires t c = record { ready = c.requires.ready; ty = c.requires.source }

pub note_address-note_constants-requires : goal.note_address-note_constants-requires
note_address-note_constants-requires t c =
    let same = ap top c.as_slice.ensures in
    (omega (arith, c.decreases, same), (c.in_ok-note_type.ensures.ready, rw c.as_slice.ensures c.requires.operands))

pub note_address-returns : goal.note_address-returns
note_address-returns t c = goes_end _ _ _ _ c.note_constants.result c.in_ok-note_type.ensures (ap (flat_map (in_typed c.args.arena.now)) c.as_slice.ensures) refl c.note_constants.ensures

pub note_constant-returns-then-is_gone : goal.note_constant-returns-then-is_gone
note_constant-returns-then-is_gone t c = goes_gone c.args.arena.now c.args.order.now c.requires.ready c.args.id c.is_gone.ensures.closed (ap (λ n. get_or c.args.order.now.gone n false) (sym c.number.ensures) ∙ sym c.is_gone.ensures.gone ∙ c.if-is_gone.true)

pub note_constant-note_parts-requires : goal.note_constant-note_parts-requires
note_constant-note_parts-requires t c = (omega (arith, c.decreases), (c.requires.ready, c.requires.constant))

pub note_constant-returns : goal.note_constant-returns
note_constant-returns t c = goes_marked c.args.arena.now c.args.order.now c.note_parts.new.order c.mark.new.self c.args.id c.number-2.result c.in_ok-note_parts.ensures c.number-2.ensures c.mark.ensures

pub note_parts-note_constants-requires : goal.note_parts-note_constants-requires
note_parts-note_constants-requires t c =
    let at = c.constant.ensures ∙ ap Some c.in-Aggregate.is in
    let known = const_known c.args.arena.now c.variable_count-count.ensures.good c.args.id _ at in
    let high = top_within (length c.args.arena.now.table.types) _ c.args.id known.typed_known in
    let same = ap top c.as_slice.ensures in
    (omega (arith, high, c.decreases, same), (c.requires.ready, rw c.as_slice.ensures (parts_known c.args.arena.now c.args.id _ c.requires.constant known.typed_known)))

pub note_parts-returns-in-Aggregate : goal.note_parts-returns-in-Aggregate
note_parts-returns-in-Aggregate t c =
    let at = c.constant.ensures ∙ ap Some c.in-Aggregate.is in
    let here = written_here c.args.arena.now c.variable_count-count.ensures.good c.args.id _ at in
    goes_as c.args.arena.now c.args.order.now _ _ _ c.note_constants.result (ap (flat_map (in_typed c.args.arena.now)) c.as_slice.ensures ∙ sym (constants_flat c.args.arena.now _) ∙ here) c.note_constants.ensures

pub note_parts-note_address-requires : goal.note_parts-note_address-requires
note_parts-note_address-requires t c =
    let at = c.constant.ensures ∙ ap Some c.in-ElementAddress.is in
    let known = const_known c.args.arena.now c.variable_count-count.ensures.good c.args.id _ at in
    let high = top_within (length c.args.arena.now.table.types) _ c.args.id known.typed_known in
    let same = ap (λ (x : ConstAddress). top x.operands) c.get.ensures in
    (omega (arith, high, c.decreases, same), (c.requires.ready, (rw c.get.ensures (known.types_known 0 c.in-ElementAddress.address.source (omega arith)), rw c.get.ensures (parts_known c.args.arena.now c.args.id _ c.requires.constant known.typed_known))))

pub note_parts-returns-in-ElementAddress : goal.note_parts-returns-in-ElementAddress
note_parts-returns-in-ElementAddress t c =
    let at = c.constant.ensures ∙ ap Some c.in-ElementAddress.is in
    let here = written_here c.args.arena.now c.variable_count-count.ensures.good c.args.id _ at in
    goes_as c.args.arena.now c.args.order.now _ _ _ c.note_address.result
    (ap (λ (x : ConstAddress). in_type c.args.arena.now x.source ++ flat_map (in_typed c.args.arena.now) x.operands) c.get.ensures ∙ ap (λ (ts : List Tree). in_type c.args.arena.now c.in-ElementAddress.address.source ++ ts) (sym (constants_flat c.args.arena.now _)) ∙ here) c.note_address.ensures

pub note_parts-note_typed-requires : goal.note_parts-note_typed-requires
note_parts-note_typed-requires t c =
    let at = c.constant.ensures ∙ ap Some c.in-Cast.is in
    let known = const_known c.args.arena.now c.variable_count-count.ensures.good c.args.id _ at in
    let part = known.typed_known 0 c.in-Cast.operand (omega arith) in
    let deep = part.1 in
    (omega (arith, deep, c.decreases), (c.requires.ready, part_known c.args.arena.now c.args.id c.in-Cast.operand c.requires.constant part))

pub note_parts-note_type-requires : goal.note_parts-note_type-requires
note_parts-note_type-requires t c =
    let at = c.constant.ensures ∙ ap Some c.in-Cast.is in
    let known = const_known c.args.arena.now c.variable_count-count.ensures.good c.args.id _ at in
    record { ready = c.in_ok-note_typed-in-Cast.ensures.ready; ty = known.types_known 0 c.in-Cast.to (omega arith) }

pub note_parts-returns-in_ok-note_typed-in-Cast : goal.note_parts-returns-in_ok-note_typed-in-Cast
note_parts-returns-in_ok-note_typed-in-Cast t c =
    let at = c.constant.ensures ∙ ap Some c.in-Cast.is in
    let here = written_here c.args.arena.now c.variable_count-count.ensures.good c.args.id _ at in
    goes_end _ _ _ _ c.note_type.result c.in_ok-note_typed-in-Cast.ensures refl here c.note_type.ensures

pub note_parts-note_pair-requires : goal.note_parts-note_pair-requires
note_parts-note_pair-requires t c =
    let at = c.constant.ensures ∙ ap Some c.in-Binary.is in
    let known = const_known c.args.arena.now c.variable_count-count.ensures.good c.args.id _ at in
    let left = known.typed_known 0 c.in-Binary.pair.left (omega arith) in
    let right = known.typed_known 1 c.in-Binary.pair.left (omega arith) in
    let left_deep = left.1 in
    let right_deep = right.1 in
    let same_left = ap (λ (p : ConstPair). p.left.value) c.get-in-Binary.ensures in
    let same_right = ap (λ (p : ConstPair). p.right.value) c.get-in-Binary.ensures in
    (omega (arith, left_deep, right_deep, c.decreases, same_left, same_right), (c.requires.ready, (rw c.get-in-Binary.ensures (part_known c.args.arena.now c.args.id c.in-Binary.pair.left c.requires.constant left), rw c.get-in-Binary.ensures (part_known c.args.arena.now c.args.id c.in-Binary.pair.right c.requires.constant right))))

pub note_parts-returns-in-Binary : goal.note_parts-returns-in-Binary
note_parts-returns-in-Binary t c =
    let at = c.constant.ensures ∙ ap Some c.in-Binary.is in
    let here = written_here c.args.arena.now c.variable_count-count.ensures.good c.args.id _ at in
    goes_as c.args.arena.now c.args.order.now _ _ _ c.note_pair.result (ap (λ (x : ConstPair). in_typed c.args.arena.now x.left ++ in_typed c.args.arena.now x.right) c.get-in-Binary.ensures ∙ here) c.note_pair.ensures

pub note_parts-returns-in-Integer : goal.note_parts-returns-in-Integer
note_parts-returns-in-Integer t c =
    let at = c.constant.ensures ∙ ap Some c.in-Integer.is in
    let here = written_here c.args.arena.now c.variable_count-count.ensures.good c.args.id _ at in
    goes_same here (goes_none c.requires.ready)

pub note_parts-returns-in-Truth : goal.note_parts-returns-in-Truth
note_parts-returns-in-Truth t c =
    let at = c.constant.ensures ∙ ap Some c.in-Truth.is in
    let here = written_here c.args.arena.now c.variable_count-count.ensures.good c.args.id _ at in
    goes_same here (goes_none c.requires.ready)

pub note_parts-returns-in-Null : goal.note_parts-returns-in-Null
note_parts-returns-in-Null t c =
    let at = c.constant.ensures ∙ ap Some c.in-Null.is in
    let here = written_here c.args.arena.now c.variable_count-count.ensures.good c.args.id _ at in
    goes_same here (goes_none c.requires.ready)

pub note_parts-returns-in-Undef : goal.note_parts-returns-in-Undef
note_parts-returns-in-Undef t c =
    let at = c.constant.ensures ∙ ap Some c.in-Undef.is in
    let here = written_here c.args.arena.now c.variable_count-count.ensures.good c.args.id _ at in
    goes_same here (goes_none c.requires.ready)

pub note_parts-returns-in-Poison : goal.note_parts-returns-in-Poison
note_parts-returns-in-Poison t c =
    let at = c.constant.ensures ∙ ap Some c.in-Poison.is in
    let here = written_here c.args.arena.now c.variable_count-count.ensures.good c.args.id _ at in
    goes_same here (goes_none c.requires.ready)

pub note_parts-returns-in-ZeroInitializer : goal.note_parts-returns-in-ZeroInitializer
note_parts-returns-in-ZeroInitializer t c =
    let at = c.constant.ensures ∙ ap Some c.in-ZeroInitializer.is in
    let here = written_here c.args.arena.now c.variable_count-count.ensures.good c.args.id _ at in
    goes_same here (goes_none c.requires.ready)

pub note_parts-returns-in-Address : goal.note_parts-returns-in-Address
note_parts-returns-in-Address t c =
    let at = c.constant.ensures ∙ ap Some c.in-Address.is in
    let here = written_here c.args.arena.now c.variable_count-count.ensures.good c.args.id _ at in
    goes_same here (goes_none c.requires.ready)

pub note_parts-returns-in-ByteString : goal.note_parts-returns-in-ByteString
note_parts-returns-in-ByteString t c =
    let at = c.constant.ensures ∙ ap Some c.in-ByteString.is in
    let here = written_here c.args.arena.now c.variable_count-count.ensures.good c.args.id _ at in
    goes_same here (goes_none c.requires.ready)
