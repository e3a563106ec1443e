use Rattle.std.proofs.Common.{take, map, [], ◌∷◌}
use Rattle.std.specs.Prelude.{flat_map}
use Rattle.ir_syntax.specs.View.{parameter_view}
use Rattle.name_rules.specs.Locals.{announced_parameter}
use Rattle.name_judge.specs.Locals.Names.{Announces}
use Rattle.name_judge.proofs.locals.gathered.add_parameters.Given as goal

abbrev pub invariant-parameters : goal.invariant-parameters
invariant-parameters l = Announces l.initial.names l.names (flat_map (λ p. announced_parameter p ∷ []) (map parameter_view (take l.parameter-index l.parameters)))
