use Rattle.std.proofs.Common.{◌≡◌, ◌+◌, ◌*◌, ◌++◌, max, drop}
use Rattle.record_table.specs.Standing.{AllStand}
use Rattle.record_write.specs.Operands.Numbered.{constants_in}
use Rattle.record_write.proofs.OnOperands.Parts.{top, parts_spelled, typed_spelled}
use Rattle.record_write.proofs.operands.constants.+constants.Given as goal

abbrev pub decreases-put_constant : goal.decreases-put_constant
decreases-put_constant l = 8 * l.id + 3

abbrev pub decreases-put_typed : goal.decreases-put_typed
decreases-put_typed l = 8 * l.part.value + 4

abbrev pub decreases-put_index : goal.decreases-put_index
decreases-put_index l = 8 * l.part.value + 5

abbrev pub decreases-put_parts : goal.decreases-put_parts
decreases-put_parts l = 8 * top l.parts.now

abbrev pub decreases-put_indices : goal.decreases-put_indices
decreases-put_indices l = 8 * top l.parts.now

abbrev pub decreases-put_operands : goal.decreases-put_operands
decreases-put_operands l = 8 * top l.parts.now + 1

abbrev pub decreases-put_address : goal.decreases-put_address
decreases-put_address l = 8 * top l.address.now.operands + 2

abbrev pub decreases-put_cast : goal.decreases-put_cast
decreases-put_cast l = 8 * l.part.value + 6

abbrev pub decreases-put_pair : goal.decreases-put_pair
decreases-put_pair l = 8 * max l.pair.left.value l.pair.right.value + 5

-- what is left completes the parts
abbrev pub invariant-put_parts-parts : goal.invariant-put_parts-parts
invariant-put_parts-parts l =
    AllStand (constants_in l.numbering l.parts) → l.operands.items ++ parts_spelled l.numbering (drop l.part-index l.parts) ≡ l.initial.operands.items ++ parts_spelled l.numbering l.parts

abbrev pub invariant-put_indices-parts : goal.invariant-put_indices-parts
invariant-put_indices-parts l =
    AllStand (constants_in l.numbering l.parts) → l.operands.items ++ typed_spelled l.numbering (drop l.part-index l.parts) ≡ l.initial.operands.items ++ typed_spelled l.numbering l.parts
