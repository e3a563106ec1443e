use Rattle.std.proofs.Common.{drop, flat_map, map, ◌++◌, ◌≡◌}
use Rattle.module_arena.specs.View.{local_view}
use Rattle.record_write.specs.Operands.Numbered.{texts}
use Rattle.record_table.specs.Fields.{label}
use Rattle.module_arena.specs.declared.entry.Parameter.{Parameter}
use Rattle.bitcode_write.proofs.bodies.put_names.Given as goal

-- what is left completes the list
abbrev pub invariant-parts : goal.invariant-parts
invariant-parts l =
    let a = l.numbering in
    l.operands.items ++ flat_map (label (texts a) 0).spell (map (λ (p : Parameter). local_view p.name) (drop l.place l.parameters)) ≡ l.initial.operands.items ++ flat_map (label (texts a) 0).spell (map (λ (p : Parameter). local_view p.name) l.parameters)
