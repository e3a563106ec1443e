use Rattle.std.proofs.Common.{◌+◌, ◌*◌, map, take}
use Rattle.link_names.specs.Shapes.Shapes.{shapes_of}
use Rattle.link_names.specs.Structs.Shapes.{struct_shape, type_shape}
use Rattle.link_names.specs.Structs.Walked.{FindsAll}
use Rattle.link_names.proofs.OnStructs.Shaped.{depth, top}
use Rattle.link_names.proofs.structs.walk.ShapeWalk.+walk.Given as goal

abbrev pub decreases-type_number : goal.decreases-type_number
decreases-type_number l = 6 * depth (type_shape l.from.now l.ty) + 4

abbrev pub decreases-written_number : goal.decreases-written_number
decreases-written_number l = 6 * depth (type_shape l.from.now l.ty) + 3

abbrev pub decreases-struct_number : goal.decreases-struct_number
decreases-struct_number l = 6 * depth (struct_shape l.from.now l.id) + 2

abbrev pub decreases-body_number : goal.decreases-body_number
decreases-body_number l = 6 * depth (struct_shape l.from.now l.id) + 1

abbrev pub decreases-fields_number : goal.decreases-fields_number
decreases-fields_number l = 6 * top l.from.now l.fields.now + 6

abbrev pub decreases-part_numbers : goal.decreases-part_numbers
decreases-part_numbers l = 6 * top l.from.now l.parts.now + 5

abbrev pub invariant-part_numbers-parts : goal.invariant-part_numbers-parts
invariant-part_numbers-parts l = FindsAll l.from (shapes_of l.fn.shapes) l.self (shapes_of l.shapes) l.numbers.items (map (type_shape l.from) (take l.part-index l.parts))
