use Rattle.std.proofs.Common.{List, [], map, refl, subst, sym, ◌∷◌}
use Rattle.bitcode_write.proofs.Lined.{things_end, things_more}
use Rattle.bitcode_write.specs.Lines.Ids.{KnowsLine}
use Rattle.bitcode_write.specs.Lines.Lines.{IsLine, instruction_of}
use Rattle.record_write.specs.Operands.Numbered.{inside, texts}
use Rattle.record_table.specs.Spelling.{instruction_line}
use Rattle.module_arena.specs.declared.instruction.Inst.{Inst}
use Rattle.bitcode_write.proofs.bodies.put_lines.Goals as goal

pub parts-preserved : goal.parts-preserved
parts-preserved c =
    let a = c.args.numbering.now in
    let f = c.args.function.now in
    record {
      ready = c.in_ok-put_line.ensures.put.ready;
      none = c.in_ok-put_line.ensures.none;
      rest = λ now h. c.parts.invariant.rest now (things_more (λ (x : Inst). instruction_line (texts a) (inside a f) (instruction_of a f x) ∷ []) (λ (xs : List Inst). map (instruction_line (texts a) (inside a f)) (map (instruction_of a f) xs)) refl (λ x xs. refl) c.args.instructions.now c.parts.place c.index-instructions-place.result c.parts-test.true c.index-instructions-place.is c.in_ok-put_line.ensures.put h);
    }

pub returns-clause-put : goal.returns-clause-put
returns-clause-put c =
    let a = c.args.numbering.now in
    let f = c.args.function.now in
    c.parts.invariant.rest _ (things_end (λ (x : Inst). instruction_line (texts a) (inside a f) (instruction_of a f x) ∷ []) (λ (xs : List Inst). map (instruction_line (texts a) (inside a f)) (map (instruction_of a f) xs)) refl (λ x xs. refl) c.args.instructions.now c.parts.place _ c.parts-test.false c.parts.invariant.ready)

pub put_line-requires-clause-ready : goal.put_line-requires-clause-ready
put_line-requires-clause-ready c = c.parts.invariant.ready

pub put_line-requires-clause-empty : goal.put_line-requires-clause-empty
put_line-requires-clause-empty c = c.parts.invariant.none

pub put_line-requires-clause-known : goal.put_line-requires-clause-known
put_line-requires-clause-known c =
    let a = c.args.numbering.now in
    let f = c.args.function.now in
    subst (λ (x : Inst). KnowsLine a f x) (sym c.index-instructions-place.is) (c.requires.known c.parts.place c.index-instructions-place.result c.parts-test.true)

pub put_line-requires-clause-line : goal.put_line-requires-clause-line
put_line-requires-clause-line c =
    let a = c.args.numbering.now in
    let f = c.args.function.now in
    subst (λ (x : Inst). IsLine a f x) (sym c.index-instructions-place.is) (c.requires.lines c.parts.place c.index-instructions-place.result c.parts-test.true)
