use Rattle.std.proofs.Common.{[], drop, filter_map, map, ◌≡◌}
use Rattle.bit_stream.specs.Writer.{Writer}
use Rattle.bit_tree.specs.Written.{no_more}
use Rattle.bitcode_write.specs.Entries.{function_of}
use Rattle.bitcode_write.specs.Put.{IsOpen, Puts}
use Rattle.record_write.specs.Operands.Numbered.{indices, texts}
use Rattle.record_table.specs.Spelling.{body_of, put_bodies}
use Rattle.bitcode_write.proofs.bodies.put_bodies.Given as goal

-- who writes the rest from here on has written them all
abbrev pub invariant-parts : goal.invariant-parts
invariant-parts l =
    let a = l.numbering in
    record {
      ready : IsOpen l.out.writer;
      none : l.out.operands.items ≡ [];
      rest : (now : Writer) → Puts l.out.writer (put_bodies (filter_map (body_of (texts a) (indices a)) (map (function_of a) (drop l.place l.numbering.functions))) no_more) now → Puts l.initial.out.writer (put_bodies (filter_map (body_of (texts a) (indices a)) (map (function_of a) l.numbering.functions)) no_more) now;
    }
