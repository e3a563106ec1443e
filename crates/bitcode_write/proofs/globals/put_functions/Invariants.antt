use Rattle.std.proofs.Common.{[], drop, is_some, map, ◌≡◌}
use Rattle.bit_stream.specs.Writer.{Writer}
use Rattle.bitcode_write.specs.Entries.{function_of}
use Rattle.bitcode_write.specs.Put.{IsOpen, PutsLines}
use Rattle.record_write.specs.Operands.Numbered.{indices, texts}
use Rattle.record_table.specs.Records as records
use Rattle.module_arena.specs.Module as m
use Rattle.bitcode_write.proofs.globals.put_functions.Given as goal

-- who writes the rest from here on has written them all
abbrev pub invariant-parts : goal.invariant-parts
invariant-parts l =
    let a = l.numbering in
    record {
      ready : IsOpen l.out.writer;
      none : l.out.operands.items ≡ [];
      rest : (now : Writer) → PutsLines l.out.writer (map (λ (y : m.Function). (6, (records.function (texts a) (indices a)).spell (is_some (y).body, y))) (map (function_of a) (drop l.place l.numbering.functions))) now → PutsLines l.initial.out.writer (map (λ (y : m.Function). (6, (records.function (texts a) (indices a)).spell (is_some (y).body, y))) (map (function_of a) l.numbering.functions)) now;
    }
