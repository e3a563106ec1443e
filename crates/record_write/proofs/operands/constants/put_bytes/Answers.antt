use Rattle.std.proofs.Common.{◌∷◌, [], length, get_or, refl, arith}
use Rattle.std.specs.List.{flat_map}
use Rattle.std.proofs.lemmas.List.{get_or_default}
use Rattle.record_table.specs.Fields.{byte}
use Rattle.record_write.proofs.OnOperands.Chain.{two, part_more, part_end}
use Rattle.record_write.proofs.operands.constants.put_bytes.Goals as goal

pub parts-preserved : goal.parts-preserved
parts-preserved c =
    let xs = c.args.bytes.now in
    let x = get_or xs c.parts.part-index 0 in
    part_more (flat_map byte.spell) byte.spell (λ x xs. refl) xs c.parts.part-index x _ _ _ c.parts-test.true (get_or_default xs c.parts.part-index 0 x c.parts-test.true) c.parts.invariant c.in_ok-put_byte.ensures

pub returns : goal.returns
returns c =
    let xs = c.args.bytes.now in
    two _ (length xs ∷ []) (flat_map byte.spell xs) _ _ c.in_ok-put_count.ensures (part_end (flat_map byte.spell) byte.spell (λ x xs. refl) refl xs c.parts.part-index _ _ (omega arith) c.parts.invariant)
