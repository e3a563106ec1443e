use Rattle.std.proofs.Common.{◌≡◌, true, take}
use Rattle.std.specs.List.{list_all}
use Rattle.type_table.specs.Types.{tree}
use Rattle.module_arena.specs.TypeTests.{is_integer}
use Rattle.instruction_verify.proofs.elements.are_integers.Given as goal

abbrev pub invariant-loop-index : goal.invariant-loop-index
invariant-loop-index l = list_all (λ o. is_integer (tree l.types o.ty)) (take l.index-index l.indices) ≡ true
