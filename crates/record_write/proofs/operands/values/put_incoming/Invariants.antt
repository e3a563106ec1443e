use Rattle.std.proofs.Common.{◌≡◌, All, ◌++◌, map, drop}
use Rattle.std.specs.List.{flat_map}
use Rattle.module_arena.specs.declared.entry.Function.{Function}
use Rattle.type_table.specs.Types.{tree}
use Rattle.record_table.specs.Lines.{incoming}
use Rattle.record_write.specs.Operands.Numbered.{inside, incoming_of}
use Rattle.record_write.specs.Operands.Wide.{IsBody, HasIncomingIn}
use Rattle.record_write.proofs.operands.values.put_incoming.Given as goal

-- what is left completes the list
abbrev pub invariant-parts : goal.invariant-parts
invariant-parts l =
    let a = l.numbering in
    (f : Function) → IsBody a f → All (HasIncomingIn a f (tree a.table l.ty)) l.parts → l.operands.items ++ flat_map (incoming (inside a f) (tree a.table l.ty)).spell (map (incoming_of a f) (drop l.part-index l.parts)) ≡ l.initial.operands.items ++ flat_map (incoming (inside a f) (tree a.table l.ty)).spell (map (incoming_of a f) l.parts)
