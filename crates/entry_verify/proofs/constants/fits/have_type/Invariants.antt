use Rattle.std.proofs.Common.{◌≡◌, true, take}
use Rattle.std.specs.List.{list_all}
use Rattle.type_table.specs.Types.{tree}
use Rattle.module_arena.specs.Same.{same_type}
use Rattle.entry_verify.proofs.constants.fits.have_type.Given as goal

abbrev pub invariant-loop-part : goal.invariant-loop-part
invariant-loop-part l = list_all (λ x. same_type (tree l.types l.ty) (tree l.types x.ty)) (take l.part-index l.parts) ≡ true
