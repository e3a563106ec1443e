use Rattle.std.proofs.Common.{List, refl, sym, subst}
use Rattle.ir_lexer.specs.Pieces.{Indented}
use Rattle.module_arena.specs.declared.instruction.Inst.{Inst}
use Rattle.canonical.specs.Instructions.{instruction_phrase}
use Rattle.ir_printer.specs.Instructions.Lines.{instruction_of}
use Rattle.ir_printer.proofs.Lines.{lines}
use Rattle.ir_printer.specs.Blocks.{HasInst}
use Rattle.ir_printer.proofs.Lined.{line_more, lines_end}
use Rattle.ir_printer.proofs.blocks.put_lines.Goals as goal

pub parts-preserved : goal.parts-preserved
parts-preserved g c = λ s now h.
    let a = c.args.arena.now in
    let f = c.args.function.now in
    c.parts.invariant s now (line_more Indented (λ (x : Inst). instruction_phrase (instruction_of a f x)) (λ (xs : List Inst). lines a f xs) refl (λ x xs. refl) c.args.instructions.now c.parts.place c.index-instructions-place.result s c.parts-test.true c.index-instructions-place.is c.put_instruction.ensures h)

pub returns : goal.returns
returns g c = λ s.
    let a = c.args.arena.now in
    let f = c.args.function.now in
    c.parts.invariant s _ (lines_end Indented (λ (x : Inst). instruction_phrase (instruction_of a f x)) (λ (xs : List Inst). lines a f xs) refl (λ x xs. refl) c.args.instructions.now c.parts.place s _ c.parts-test.false)

pub put_instruction-requires-clause-known : goal.put_instruction-requires-clause-known
put_instruction-requires-clause-known g c =
    let here = subst (HasInst c.args.arena.now c.args.function.now) (sym c.index-instructions-place.is) (c.requires c.parts.place c.index-instructions-place.result c.parts-test.true) in
    here.known

pub put_instruction-requires-clause-result : goal.put_instruction-requires-clause-result
put_instruction-requires-clause-result g c =
    let here = subst (HasInst c.args.arena.now c.args.function.now) (sym c.index-instructions-place.is) (c.requires c.parts.place c.index-instructions-place.result c.parts-test.true) in
    here.result
