use Rattle.std.proofs.Common.{List, map, subst, ap}
use Rattle.std.proofs.lemmas.List.Elements.{All-tail}
use Rattle.type_table.specs.Types.{tree}
use Rattle.module_arena.specs.declared.instruction.Operand as the_operand
use Rattle.module_arena.specs.Module as m
use Rattle.canonical.specs.Operations.{operation_phrase}
use Rattle.ir_printer.specs.Phrases.Printing.{separator_of}
use Rattle.ir_printer.proofs.OnPhrases.Printing.{prints_same}
use Rattle.ir_printer.specs.Instructions.Named.{operand_of}
use Rattle.ir_printer.specs.Instructions.Parts.{HasThis}
use Rattle.module_arena.proofs.Accesses.{no_other_access}
use Rattle.ir_printer.proofs.OnInstructions.Known.{Is}
use Rattle.ir_printer.proofs.instructions.operation.put_access.Goals as goal

pub put_element_address-requires-clause-indices : goal.put_element_address-requires-clause-indices
put_element_address-requires-clause-indices g c =
    let known = subst (Is c.args.arena.now c.args.function.now) c.in-GetElementPtr.is c.requires.known in
    rw c.as_slice-indices.ensures (All-tail (HasThis c.args.arena.now c.args.function.now) c.in-GetElementPtr.base c.in-GetElementPtr.indices known.operands_known)

pub returns-in-GetElementPtr : goal.returns-in-GetElementPtr
returns-in-GetElementPtr g c =
    let a = c.args.arena.now in
    let f = c.args.function.now in
    rw c.in-GetElementPtr.is
    (prints_same (ap (λ (xs : List the_operand.Operand). operation_phrase (m.GetElementPtr c.in-GetElementPtr.flags (tree a.table c.in-GetElementPtr.source) (operand_of a f c.in-GetElementPtr.base) (map (operand_of a f) xs)) (separator_of c.args.behind)) c.as_slice-indices.ensures) c.put_element_address.ensures)

pub unreachable-requires : goal.unreachable-requires
unreachable-requires g c = no_other_access c.args.inst.now c.requires.access c.in_default.not-Load c.in_default.not-Store c.in_default.not-Alloca c.in_default.not-GetElementPtr
