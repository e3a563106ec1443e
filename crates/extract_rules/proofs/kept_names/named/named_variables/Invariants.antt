use Rattle.std.proofs.Common.{◌≡◌, map, take}
use Rattle.module_arena.specs.Module.{Variable}
use Rattle.module_arena.specs.View.{module_of}
use Rattle.extract_rules.specs.Selected.{is_among}
use Rattle.extract_rules.proofs.kept_names.named.named_variables.Given as goal

abbrev pub invariant-loop-number : goal.invariant-loop-number
invariant-loop-number l = l.flags ≡ map (λ (x : Variable). is_among l.names.keys x.name) (take l.number (module_of l.arena).variables)
