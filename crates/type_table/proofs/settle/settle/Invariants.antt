use Rattle.std.proofs.Common.{◌≡◌, length}
use Rattle.indexmap.specs.IndexMap.{values, index_map_len}
use Rattle.type_table.specs.Measures.{passes}
use Rattle.type_table.proofs.settle.settle.Given as goal

abbrev pub invariant-loop-pass : goal.invariant-loop-pass
invariant-loop-pass l =
    record {
      many : length l.measured.items ≡ index_map_len l.structs;
      made : l.measured.items ≡ passes l.types (values l.structs) l.initial.measured.items l._pass;
    }
