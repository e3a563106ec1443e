use Rattle.std.proofs.Common.{length, ◌-◌, ◌≡◌, ◌+◌, ◌≤◌, take, drop, false}
use Rattle.ir_lexer.specs.Gap.{gap_length}
use Rattle.ir_lexer.specs.Place.{place_after}
use Rattle.ir_lexer.proofs.gap.gap_of.Given as goal

abbrev pub invariant-gap : goal.invariant-gap
invariant-gap l = record {
  within : l.n ≤ length l.bytes;
  count : gap_length false l.bytes ≡ l.n + gap_length false (drop l.n l.bytes);
  line_in : l.here.line ≤ l.fn.place.line + l.n;
  column_in : l.here.column ≤ l.fn.place.column + l.n;
  first : 1 ≤ l.here.column;
  place : l.here ≡ place_after l.fn.place (take l.n l.bytes);
}

abbrev pub decreases-gap : goal.decreases-gap
decreases-gap l = length l.bytes - l.n
