use Rattle.std.proofs.Common.{[], drop, flat_map, map, ◌≡◌}
use Rattle.bit_stream.specs.Writer.{Writer}
use Rattle.bitcode_write.specs.Entries.{block_of}
use Rattle.bitcode_write.specs.Put.{IsOpen, PutsLines}
use Rattle.record_write.specs.Operands.Numbered.{inside, texts}
use Rattle.record_table.specs.Spelling.{block_lines}
use Rattle.bitcode_write.proofs.bodies.put_blocks.Given as goal

-- who writes the rest from here on has written them all
abbrev pub invariant-parts : goal.invariant-parts
invariant-parts l =
    let a = l.numbering in
    record {
      ready : IsOpen l.out.writer;
      none : l.out.operands.items ≡ [];
      rest : (now : Writer) → PutsLines l.out.writer (flat_map (block_lines (texts a) (inside a l.function)) (map (block_of a l.function) (drop l.place l.blocks))) now → PutsLines l.initial.out.writer (flat_map (block_lines (texts a) (inside a l.function)) (map (block_of a l.function) l.blocks)) now;
    }
