use Rattle.std.proofs.Common.{refl, arith}
use Rattle.module_arena.specs.declared.instruction.Operand as the_operand
use Rattle.canonical.specs.Constants.{operand}
use Rattle.ir_printer.specs.Phrases.Printing.{separator_of}
use Rattle.ir_printer.specs.Instructions.Named.{operand_of}
use Rattle.ir_printer.proofs.OnInstructions.Listing.{part_put, parts_put}
use Rattle.ir_printer.proofs.OnInstructions.Locals.{operands_phrases}
use Rattle.ir_printer.proofs.instructions.operands.put_operands.Goals as goal

pub parts-preserved : goal.parts-preserved
parts-preserved g c = λ now h.
    let a = c.args.arena.now in
    let f = c.args.function.now in
    c.parts.invariant now (part_put (λ (x : the_operand.Operand). operand (operand_of a f x)) (operands_phrases a f) refl (λ x xs. refl) c.args.parts.now c.parts.place c.index-parts-place.result (separator_of c.before-in-parts.result) (separator_of c.args.behind) c.parts-test.true c.index-parts-place.is c.before-in-parts.ensures c.put_operand.ensures c.put_comma.ensures h)

pub returns : goal.returns
returns g c =
    let a = c.args.arena.now in
    let f = c.args.function.now in
    c.parts.invariant _ (parts_put (λ (x : the_operand.Operand). operand (operand_of a f x)) (operands_phrases a f) refl (λ x xs. refl) c.args.parts.now c.parts.place (separator_of c.args.behind) _ (omega arith))
