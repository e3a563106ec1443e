use Rattle.std.proofs.Common.{◌≡◌, ◌++◌, drop}
use Rattle.std.specs.List.{flat_map}
use Rattle.record_table.specs.Fields.{index}
use Rattle.record_write.proofs.operands.fields.put_indices.Given as goal

-- what is left completes the indices
abbrev pub invariant-parts : goal.invariant-parts
invariant-parts l = l.operands.items ++ flat_map index.spell (drop l.part-index l.indices) ≡ l.initial.operands.items ++ flat_map index.spell l.indices
