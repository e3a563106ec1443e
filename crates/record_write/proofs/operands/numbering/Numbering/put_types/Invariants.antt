use Rattle.std.proofs.Common.{◌≡◌, ◌++◌, map, drop}
use Rattle.std.specs.List.{flat_map}
use Rattle.type_table.specs.Types.{tree}
use Rattle.record_table.specs.Fields.{ty}
use Rattle.record_write.specs.Operands.Numbered.{indices}
use Rattle.record_write.proofs.operands.numbering.Numbering.put_types.Given as goal

-- what is left completes the types
abbrev pub invariant-parts : goal.invariant-parts
invariant-parts l =
    l.operands.items ++ flat_map (ty (indices l.self)).spell (map (tree l.self.table) (drop l.id-index l.ids)) ≡ l.initial.operands.items ++ flat_map (ty (indices l.self)).spell (map (tree l.self.table) l.ids)
