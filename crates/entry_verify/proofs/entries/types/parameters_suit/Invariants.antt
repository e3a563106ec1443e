use Rattle.std.proofs.Common.{◌≡◌, true, take}
use Rattle.std.specs.List.{list_all}
use Rattle.type_table.specs.Types.{tree, structs}
use Rattle.module_arena.specs.TypeTests.{is_passable}
use Rattle.entry_verify.proofs.entries.types.parameters_suit.Given as goal

abbrev pub invariant-loop-parameter : goal.invariant-loop-parameter
invariant-loop-parameter l = list_all (λ p. is_passable (structs l.types) (tree l.types p.ty)) (take l.parameter-index l.parameters) ≡ true
