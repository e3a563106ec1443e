use Rattle.std.proofs.Common.{◌≡◌, ◌++◌, string_bytes}
use Rattle.bit_dump.specs.Text.{indent}
use Rattle.bit_dump.proofs.text.put_indent.Given as goal

abbrev pub invariant-loop-level : goal.invariant-loop-level
invariant-loop-level l = string_bytes l.out ≡ string_bytes l.initial.out ++ indent l._level
