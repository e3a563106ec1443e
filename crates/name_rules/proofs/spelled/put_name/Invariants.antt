use Rattle.std.specs.Prelude.{◌≡◌, ◌++◌, drop, flat_map}
use Rattle.name_rules.specs.Spelled.{quoted_byte}
use Rattle.name_rules.proofs.spelled.put_name.Given as goal

abbrev pub invariant-loop-byte : goal.invariant-loop-byte
invariant-loop-byte l = l.initial.text ++ flat_map quoted_byte l.fn.name ≡ l.text ++ flat_map quoted_byte (drop l.byte-index l.fn.name)
