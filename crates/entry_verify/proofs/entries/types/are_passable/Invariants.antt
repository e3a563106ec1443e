use Rattle.std.proofs.Common.{◌≡◌, true, take}
use Rattle.std.specs.List.{list_all}
use Rattle.type_table.specs.Types.{tree, structs}
use Rattle.module_arena.specs.TypeTests.{is_passable}
use Rattle.entry_verify.proofs.entries.types.are_passable.Given as goal

abbrev pub invariant-loop-ty : goal.invariant-loop-ty
invariant-loop-ty l = list_all (λ p. is_passable (structs l.types) (tree l.types p)) (take l.ty-index l.parts) ≡ true
