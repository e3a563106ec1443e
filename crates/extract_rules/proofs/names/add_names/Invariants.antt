use Rattle.std.proofs.Common.{◌∷◌, [], flat_map, take}
use Rattle.extract_rules.specs.Calls.{Adds}
use Rattle.extract_rules.proofs.names.add_names.Given as goal

abbrev pub invariant-loop-name : goal.invariant-loop-name
invariant-loop-name l = Adds l.initial.names.keys (flat_map (λ x. x ∷ []) (take l.name-index l.more)) l.names.keys
