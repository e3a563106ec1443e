use Rattle.std.proofs.Common.{◌∷◌, [], flat_map, take}
use Rattle.module_arena.specs.View.{module_of}
use Rattle.extract_rules.specs.Calls.{Adds}
use Rattle.extract_rules.specs.Selected.{behind}
use Rattle.extract_rules.proofs.chosen.add_targets.Given as goal

abbrev pub invariant-loop-alias : goal.invariant-loop-alias
invariant-loop-alias l = Adds l.initial.names.keys (flat_map (λ x. behind (module_of l.arena) x ∷ []) (take l.alias-index l.aliases)) l.names.keys
