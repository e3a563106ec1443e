use Rattle.std.proofs.Common.{◌≡◌, map, take}
use Rattle.run_names.specs.Shapes.Shapes.{shape_in}
use Rattle.run_decode.proofs.signatures.alike.are_alike.Given as goal

-- the types so far have the same shapes
abbrev pub invariant-types : goal.invariant-types
invariant-types l = map (shape_in l.types) (take l.place l.first) ≡ map (shape_in l.types) (take l.place l.second)
