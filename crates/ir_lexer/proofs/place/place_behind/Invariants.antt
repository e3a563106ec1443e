use Rattle.std.proofs.Common.{◌≡◌, ◌+◌, ◌≤◌, drop}
use Rattle.ir_lexer.specs.Place.{place_after}
use Rattle.ir_lexer.proofs.place.place_behind.Given as goal

abbrev pub invariant-loop-byte : goal.invariant-loop-byte
invariant-loop-byte l = record {
  line_in : l.here.line ≤ l.fn.place.line + l.byte-index;
  column_in : l.here.column ≤ l.fn.place.column + l.byte-index;
  first : 1 ≤ l.here.column;
  place : place_after l.fn.place l.bytes ≡ place_after l.here (drop l.byte-index l.bytes);
}
