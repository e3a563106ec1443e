use Rattle.std.proofs.Common.{refl, arith}
use Rattle.module_arena.specs.declared.instruction.Incoming as the_incoming
use Rattle.canonical.specs.Operations.{incoming_phrase}
use Rattle.ir_printer.proofs.OnInstructions.Listing.{part_put, parts_put}
use Rattle.type_table.specs.Types.{tree}
use Rattle.ir_printer.specs.Phrases.Printing.{separator_of}
use Rattle.ir_printer.specs.Instructions.Parts.{incoming_of}
use Rattle.ir_printer.proofs.OnInstructions.Chained.{incoming_phrases}
use Rattle.ir_printer.proofs.instructions.phis.put_all_incoming.Goals as goal

pub parts-preserved : goal.parts-preserved
parts-preserved g c = λ now h.
    let a = c.args.arena.now in
    let f = c.args.function.now in
    let ty = tree a.table c.args.ty in
    c.parts.invariant now (part_put (λ (x : the_incoming.Incoming). incoming_phrase ty (incoming_of a f x)) (incoming_phrases a f ty) refl (λ x xs. refl) c.args.parts.now c.parts.place c.index-parts-place.result (separator_of c.before-in-parts.result) (separator_of c.args.behind) c.parts-test.true c.index-parts-place.is c.before-in-parts.ensures c.put_incoming.ensures c.put_comma.ensures h)

pub returns : goal.returns
returns g c =
    let a = c.args.arena.now in
    let f = c.args.function.now in
    let ty = tree a.table c.args.ty in
    c.parts.invariant _ (parts_put (λ (x : the_incoming.Incoming). incoming_phrase ty (incoming_of a f x)) (incoming_phrases a f ty) refl (λ x xs. refl) c.args.parts.now c.parts.place (separator_of c.args.behind) _ (omega arith))
