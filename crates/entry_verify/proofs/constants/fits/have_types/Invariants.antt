use Rattle.std.proofs.Common.{◌≡◌, map, drop}
use Rattle.type_table.specs.Types.{tree, trees, trees_at}
use Rattle.entry_verify.specs.Constants.ConstantParts.{are_types}
use Rattle.entry_verify.proofs.constants.fits.have_types.Given as goal

abbrev pub invariant-loop-index : goal.invariant-loop-index
invariant-loop-index l =
    are_types (trees_at (trees l.types) (drop l.index l.wanted)) (map (λ x. tree l.types x.ty) (drop l.index l.parts))
    ≡ are_types (trees_at (trees l.types) l.wanted) (map (λ x. tree l.types x.ty) l.parts)
