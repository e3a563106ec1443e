use Rattle.std.proofs.Common.{drop, flat_map, map, ◌++◌, ◌≡◌}
use Rattle.record_write.specs.Operands.Numbered.{indices}
use Rattle.record_table.specs.Fields.{ty}
use Rattle.type_table.specs.Types.{tree}
use Rattle.module_arena.specs.declared.entry.Parameter.{Parameter}
use Rattle.bitcode_write.proofs.entries.put_parameter_types.Given as goal

-- what is left completes the list
abbrev pub invariant-parts : goal.invariant-parts
invariant-parts l =
    let a = l.numbering in
    l.operands.items ++ flat_map (ty (indices a)).spell (map (λ (p : Parameter). tree a.table p.ty) (drop l.place l.parameters)) ≡ l.initial.operands.items ++ flat_map (ty (indices a)).spell (map (λ (p : Parameter). tree a.table p.ty) l.parameters)
