use Rattle.std.proofs.Common.{◌≡◌, ◌++◌, drop}
use Rattle.std.specs.List.{flat_map}
use Rattle.record_table.specs.Fields.{byte}
use Rattle.record_write.proofs.operands.constants.put_bytes.Given as goal

-- what is left completes the bytes
abbrev pub invariant-parts : goal.invariant-parts
invariant-parts l = l.operands.items ++ flat_map byte.spell (drop l.part-index l.bytes) ≡ l.initial.operands.items ++ flat_map byte.spell l.bytes
