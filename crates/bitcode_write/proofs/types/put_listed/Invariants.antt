use Rattle.std.proofs.Common.{[], drop, map, ◌≡◌}
use Rattle.bit_stream.specs.Writer.{Writer}
use Rattle.bitcode_write.specs.Entries.{type_in}
use Rattle.bitcode_write.specs.Put.{IsOpen, PutsLines}
use Rattle.record_table.specs.Spelling.{type_line}
use Rattle.type_table.specs.Tree.{Tree}
use Rattle.type_table.specs.Types.{tree}
use Rattle.bitcode_write.proofs.types.put_listed.Given as goal

-- who writes the rest from here on has written them all
abbrev pub invariant-parts : goal.invariant-parts
invariant-parts l =
    let a = l.numbering in
    record {
      ready : IsOpen l.out.writer;
      none : l.out.operands.items ≡ [];
      rest : (now : Writer) → PutsLines l.out.writer (map (λ (t : Tree). type_line (type_in a t)) (map (tree a.table) (drop l.place l.ids))) now → PutsLines l.initial.out.writer (map (λ (t : Tree). type_line (type_in a t)) (map (tree a.table) l.ids)) now;
    }
