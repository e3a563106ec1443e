use Rattle.std.proofs.Common.{List, [], ap, map, refl, ◌++◌, ◌+◌, ◌∙◌, ◌∷◌}
use Rattle.bitcode_write.proofs.Chain.{from_empty}
use Rattle.bitcode_write.proofs.Lined.{lines_as, lines_same, put_as, then_put}
use Rattle.ir_tables.specs.Opcode.{opcode_code}
use Rattle.ir_tables.specs.declared.opcode.Opcode.{Opcode}
use Rattle.module_arena.specs.View.{local_view}
use Rattle.bitcode_write.specs.Lines.Lines.{ending_of, instruction_of}
use Rattle.record_write.specs.Operands.Numbered.{inside, texts}
use Rattle.record_table.specs.Fields.{label}
use Rattle.record_table.specs.Spelling.{Line, ending_line, instruction_line}
use Rattle.module_arena.specs.declared.instruction.Inst.{Inst}
use Rattle.bitcode_write.proofs.bodies.put_block.Goals as goal

pub returns-clause-put : goal.returns-clause-put
returns-clause-put c =
    let a = c.args.numbering.now in
    let f = c.args.function.now in
    let b = c.args.block.now in
    let k = inside a f in
    let named : Line = (2, (label (texts a) 0).spell (local_view b.name)) in
    let lines = map (instruction_line (texts a) k) (map (instruction_of a f) b.instructions) in
    let ended = ending_line k (ending_of a f b.end) in
    let label = from_empty _ _ _ c.requires.empty c.in_ok-put_label.ensures in
    let same =
    ap (λ (is : List Inst). map (instruction_line (texts a) k) (map (instruction_of a f) is))
    c.as_slice.ensures in
    let opcode = ap (λ (o : Opcode). 10 + opcode_code o) (c.ending_opcode-opcode.ensures a f) in
    then_put _ _ _ _ (named ∷ []) (lines ++ ended ∷ [])
    (lines_as _ 2 _ _ c.in_ok-put.ensures.put refl label)
    (then_put _ _ _ _ lines (ended ∷ []) (lines_same same c.in_ok-put_lines.ensures.put)
    (put_as _ _ _ _ _ _ _ c.put-2.ensures.put (c.line_code.ensures ∙ opcode)
    (from_empty _ _ _ c.in_ok-put_lines.ensures.none (c.in_ok-put_ending.ensures f c.requires.known.ending))))

pub put_lines-requires-clause-known : goal.put_lines-requires-clause-known
put_lines-requires-clause-known c = rw c.as_slice.ensures c.requires.known.known

pub put_lines-requires-clause-lines : goal.put_lines-requires-clause-lines
put_lines-requires-clause-lines c = rw c.as_slice.ensures c.requires.known.lines
