use Rattle.std.proofs.Common.{◌≡◌, true, take}
use Rattle.std.specs.List.{list_all}
use Rattle.type_table.specs.Types.{tree}
use Rattle.module_arena.specs.TypeTests.{is_integer}
use Rattle.entry_verify.proofs.constants.fits.are_integers.Given as goal

abbrev pub invariant-loop-index : goal.invariant-loop-index
invariant-loop-index l = list_all (λ x. is_integer (tree l.types x.ty)) (take l.index-index l.indices) ≡ true
