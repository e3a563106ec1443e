use Rattle.std.proofs.Common.{Some, map, take}
use Rattle.type_table.specs.Types.{tree}
use Rattle.instruction_verify.specs.Last.Given.{Grows}
use Rattle.instruction_verify.proofs.last.list.add_parameters.Given as goal

-- the types of the parameters so far are behind what was there
abbrev pub invariant-parameters : goal.invariant-parameters
invariant-parameters l = Grows l.types l.fn.list.items l.list.items (map (λ p. Some (tree l.types p.ty)) (take l.parameter-index l.parameters))
