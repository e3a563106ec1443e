use Rattle.std.proofs.Common.{◌≡◌, map, drop}
use Rattle.run_rules.specs.Calls.{same_shape_list}
use Rattle.run_names.specs.Shapes.Shapes.{shape_in}
use Rattle.run_names.specs.Types.Wanted.{shape_wanted}
use Rattle.run_names.proofs.types.wanted.are_wanted.Given as goal

-- what is left to compare decides
abbrev pub invariant-loop-index : goal.invariant-loop-index
invariant-loop-index l =
    same_shape_list (map (shape_in l.types) (drop l.index l.parameters)) (map shape_wanted (drop l.index l.wanted)) ≡ same_shape_list (map (shape_in l.types) l.parameters) (map shape_wanted l.wanted)
