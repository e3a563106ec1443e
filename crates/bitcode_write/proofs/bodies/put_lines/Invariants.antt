use Rattle.std.proofs.Common.{[], drop, map, ◌≡◌}
use Rattle.bit_stream.specs.Writer.{Writer}
use Rattle.bitcode_write.specs.Put.{IsOpen, PutsLines}
use Rattle.bitcode_write.specs.Lines.Lines.{instruction_of}
use Rattle.record_write.specs.Operands.Numbered.{inside, texts}
use Rattle.record_table.specs.Spelling.{instruction_line}
use Rattle.bitcode_write.proofs.bodies.put_lines.Given as goal

-- who writes the rest from here on has written them all
abbrev pub invariant-parts : goal.invariant-parts
invariant-parts l =
    let a = l.numbering in
    record {
      ready : IsOpen l.out.writer;
      none : l.out.operands.items ≡ [];
      rest : (now : Writer) → PutsLines l.out.writer (map (instruction_line (texts a) (inside a l.function)) (map (instruction_of a l.function) (drop l.place l.instructions))) now → PutsLines l.initial.out.writer (map (instruction_line (texts a) (inside a l.function)) (map (instruction_of a l.function) l.instructions)) now;
    }
