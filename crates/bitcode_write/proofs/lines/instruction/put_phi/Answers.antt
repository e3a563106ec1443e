use Rattle.std.proofs.Common.{ap, List, map}
use Rattle.type_table.specs.Types.{tree}
use Rattle.module_arena.specs.declared.instruction.Incoming.{Incoming}
use Rattle.record_table.specs.Layout.{counted}
use Rattle.record_table.specs.Lines.{incoming}
use Rattle.record_write.specs.Operands.Numbered.{inside, incoming_of}
use Rattle.record_write.proofs.OnOperands.Chain.{last2, reworded}
use Rattle.bitcode_write.specs.Lines.Parts.{type_operands}
use Rattle.bitcode_write.proofs.lines.instruction.put_phi.Goals as goal

pub returns : goal.returns
returns c = λ f body has.
    let a = c.args.numbering.now in
    let t = tree a.table c.args.ty in
    last2 _ _ (type_operands a f c.args.ty) ((counted (incoming (inside a f) t)).spell (map (incoming_of a f) c.args.incoming.now)) _ _ c.in_ok-put_type.ensures
    (reworded _ _ _ _ _ (c.put_incoming.ensures f body (rw c.as_slice.ensures has)) (ap (λ (xs : List Incoming). (counted (incoming (inside a f) t)).spell (map (incoming_of a f) xs)) c.as_slice.ensures))
