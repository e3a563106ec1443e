use Rattle.std.proofs.Common.{◌≡◌, [], map, take}
use Rattle.std.specs.List.{fold}
use Rattle.type_table.specs.Types.{names, grow}
use Rattle.entry_verify.specs.Types.TypeFlags.{is_free}
use Rattle.entry_verify.proofs.types.types.flags_of.Given as goal

abbrev pub invariant-loop-number : goal.invariant-loop-number
invariant-loop-number l = l.flags.items ≡ map (is_free l.void_passes l.name_passes) (fold (grow (names l.types)) [] (take l.number l.types.types))
