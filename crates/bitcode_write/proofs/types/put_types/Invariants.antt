use Rattle.std.proofs.Common.{[], drop, map, ◌≡◌}
use Rattle.bit_stream.specs.Writer.{Writer}
use Rattle.bitcode_write.specs.Entries.{define_in}
use Rattle.bitcode_write.specs.Put.{IsOpen, PutsLines}
use Rattle.type_table.specs.Types.{structs}
use Rattle.bitcode_write.proofs.types.put_types.Given as goal

-- who writes the rest from here on has written them all
abbrev pub invariant-structs : goal.invariant-structs
invariant-structs l =
    let a = l.numbering in
    record {
      ready : IsOpen l.out.writer;
      none : l.out.operands.items ≡ [];
      rest : (now : Writer) → PutsLines l.out.writer (map (define_in a) (drop l.place (structs a.table))) now → PutsLines l.initial.out.writer (map (define_in a) (structs a.table)) now;
    }
