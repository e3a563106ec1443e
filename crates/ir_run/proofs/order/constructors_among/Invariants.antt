use Rattle.std.proofs.Common.{◌≡◌, map, take}
use Rattle.std.specs.Prelude.{filter_map}
use Rattle.ir_run.specs.Constructors.{constructor_at, constructor_seen}
use Rattle.ir_run.proofs.order.constructors_among.Given as goal

-- those of the elements so far
abbrev pub invariant-elements : goal.invariant-elements
invariant-elements l = map constructor_seen l.found.items ≡ filter_map (constructor_at l.names) (take l.element-index l.elements)
