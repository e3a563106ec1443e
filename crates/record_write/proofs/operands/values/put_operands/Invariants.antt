use Rattle.std.proofs.Common.{◌≡◌, All, ◌++◌, map, drop}
use Rattle.std.specs.List.{flat_map}
use Rattle.module_arena.specs.declared.entry.Function.{Function}
use Rattle.record_table.specs.Lines.{typed_value}
use Rattle.record_write.specs.Operands.Numbered.{inside, operand_of}
use Rattle.record_write.specs.Operands.Wide.{IsBody, HasOperandIn}
use Rattle.record_write.proofs.operands.values.put_operands.Given as goal

-- what is left completes the list
abbrev pub invariant-parts : goal.invariant-parts
invariant-parts l =
    let a = l.numbering in
    (f : Function) → IsBody a f → All (HasOperandIn a f) l.parts → l.operands.items ++ flat_map (typed_value (inside a f)).spell (map (operand_of a f) (drop l.part-index l.parts)) ≡ l.initial.operands.items ++ flat_map (typed_value (inside a f)).spell (map (operand_of a f) l.parts)
