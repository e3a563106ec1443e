use Rattle.std.proofs.Common.{◌≡◌, true, take}
use Rattle.std.specs.List.{list_all}
use Rattle.type_table.specs.Types.{tree}
use Rattle.module_arena.specs.TypeTests.{is_free_of_void}
use Rattle.entry_verify.proofs.constants.constants.are_free_of_void.Given as goal

abbrev pub invariant-loop-part : goal.invariant-loop-part
invariant-loop-part l = list_all (λ x. is_free_of_void (tree l.types x.ty)) (take l.part-index l.parts) ≡ true
