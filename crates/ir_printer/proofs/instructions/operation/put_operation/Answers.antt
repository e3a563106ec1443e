use Rattle.std.proofs.Common.{ℕ, ◌<◌, List, length, map, subst, ap}
use Rattle.std.proofs.lemmas.List.Elements.{All-tail}
use Rattle.type_table.specs.Types.{tree}
use Rattle.module_arena.specs.declared.instruction.Call as the_call
use Rattle.module_arena.specs.declared.instruction.Incoming as the_incoming
use Rattle.module_arena.specs.declared.instruction.Insertion as the_insertion
use Rattle.module_arena.specs.Module as m
use Rattle.canonical.specs.Operations.{operation_phrase}
use Rattle.ir_printer.specs.Phrases.Printing.{separator_of}
use Rattle.ir_printer.proofs.OnPhrases.Printing.{prints_same}
use Rattle.ir_printer.specs.Instructions.Named.{value_of, operand_of}
use Rattle.ir_printer.specs.Instructions.Parts.{incoming_of, signature_of}
use Rattle.module_arena.proofs.Accesses.{access_else}
use Rattle.ir_printer.proofs.OnInstructions.Known.{Is, incoming_known}
use Rattle.ir_printer.proofs.instructions.operation.put_operation.Goals as goal

pub put_phi-requires-clause-incoming : goal.put_phi-requires-clause-incoming
put_phi-requires-clause-incoming g c =
    let known = subst (Is c.args.arena.now c.args.function.now) c.in-Phi.is c.requires in
    rw c.as_slice.ensures (incoming_known c.args.arena.now c.args.function.now c.in-Phi.incoming known.values_known known.blocks_known)

pub put_call-requires-clause-parameters : goal.put_call-requires-clause-parameters
put_call-requires-clause-parameters g c =
    let known = subst (Is c.args.arena.now c.args.function.now) c.in-Call.is c.requires in
    rw c.get-in-Call.ensures (All-tail (λ (ty : ℕ). ty < length c.args.arena.now.table.types) c.in-Call.call.signature.returns c.in-Call.call.signature.parameters known.types_known)

pub returns-in-Phi : goal.returns-in-Phi
returns-in-Phi g c =
    let a = c.args.arena.now in
    let f = c.args.function.now in
    rw c.in-Phi.is
    (prints_same (ap (λ (xs : List the_incoming.Incoming). operation_phrase (m.Phi (tree a.table c.in-Phi.ty) (map (incoming_of a f) xs)) (separator_of c.args.behind)) c.as_slice.ensures) c.put_phi.ensures)

pub returns-in-Call : goal.returns-in-Call
returns-in-Call g c =
    let a = c.args.arena.now in
    let f = c.args.function.now in
    rw c.in-Call.is
    (prints_same (ap (λ (x : the_call.Call). operation_phrase (m.Call (signature_of a x.signature) (value_of a f x.callee) (map (operand_of a f) x.arguments)) (separator_of c.args.behind)) c.get-in-Call.ensures) c.put_call.ensures)

pub returns-in-ExtractValue : goal.returns-in-ExtractValue
returns-in-ExtractValue g c =
    let a = c.args.arena.now in
    let f = c.args.function.now in
    rw c.in-ExtractValue.is
    (prints_same (ap (λ (xs : List ℕ). operation_phrase (m.ExtractValue (operand_of a f c.in-ExtractValue.aggregate) xs) (separator_of c.args.behind)) c.as_slice-indices.ensures) c.put_extract.ensures)

pub returns-in-InsertValue : goal.returns-in-InsertValue
returns-in-InsertValue g c =
    let a = c.args.arena.now in
    let f = c.args.function.now in
    rw c.in-InsertValue.is
    (prints_same (ap (λ (x : the_insertion.Insertion). operation_phrase (m.InsertValue (operand_of a f x.aggregate) (operand_of a f x.part) x.indices) (separator_of c.args.behind)) c.get-in-InsertValue.ensures) c.put_insert.ensures)

pub put_access-requires-clause-access : goal.put_access-requires-clause-access
put_access-requires-clause-access g c = access_else c.args.inst.now c.in_default.not-Binary c.in_default.not-Compare c.in_default.not-Convert c.in_default.not-Select c.in_default.not-Freeze c.in_default.not-Phi c.in_default.not-Call c.in_default.not-ExtractValue c.in_default.not-InsertValue
