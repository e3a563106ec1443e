use Rattle.std.proofs.Common.{◌≡◌, ◌+◌, ◌*◌, ◌^◌, ◌≤◌, drop, length}
use Rattle.std.specs.List.{All}
use Rattle.ir_memory.specs.Given.{IsKnown}
use Rattle.ir_memory.specs.Memory.{live_bytes}
use Rattle.run_rules.specs.Opening.{with_strings}
use Rattle.ir_run.specs.Arguments.{KeepsBlocks}
use Rattle.ir_run.proofs.Words.{with_others}
use Rattle.ir_run.proofs.arguments.place_strings.Given as goal

-- the other strings complete all; each string took a byte, so there are no more than may live, and the next address is no further off
-- than so many blocks allow
abbrev pub invariant-strings : goal.invariant-strings
invariant-strings l = record {
  made : with_others l.blocks.items (with_strings (drop l.string-index l.strings) l.memory) ≡ with_strings l.strings l.fn.memory;
  known : All (IsKnown l.memory.list) l.blocks.items;
  many : length l.blocks.items ≡ l.string-index;
  live : l.string-index ≤ live_bytes l.memory.list;
  few : l.string-index ≤ 2 ^ 28;
  near : l.memory.next ≤ l.fn.memory.next + l.string-index * (2 ^ 28 + 2 ^ 17);
  kept : KeepsBlocks l.fn.memory l.memory;
}
