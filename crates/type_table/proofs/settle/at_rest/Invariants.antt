use Rattle.std.proofs.Common.{◌≡◌, ℕ, None, length, get_or}
use Rattle.indexmap.specs.IndexMap.{values, index_map_len}
use Rattle.type_table.specs.Measures.{opaque_measure}
use Rattle.type_table.specs.Batch.{IsOpen, set_from}
use Rattle.type_table.proofs.settle.at_rest.Given as goal

abbrev pub invariant-passes : goal.invariant-passes
invariant-passes l =
    record {
      many : length l.measured.items ≡ index_map_len l.structs;
      open_kept : (k : ℕ) → IsOpen (get_or (set_from (values l.structs) l.first l.given) k None) → get_or l.measured.items k opaque_measure ≡ get_or l.kept k opaque_measure;
    }
