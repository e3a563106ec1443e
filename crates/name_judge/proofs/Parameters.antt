-- The types of parameters, one by one.
use Rattle.std.specs.Prelude.{◌≡◌, refl, List, [], ◌∷◌, ◌++◌, flat_map}
use Rattle.std.proofs.Common.{ap}
use Rattle.ir_syntax.specs.Functions.{parameter_types}
use Rattle.ir_syntax.specs.Tree.{ParameterTree}
use Rattle.name_rules.specs.Demand.{Demand}
use Rattle.name_rules.specs.TypeDemands.{Known, type_demands}

-- what the type of a parameter asks for
abbrev pub parameter_type_demands : Known → ParameterTree → List Demand
parameter_type_demands known parameter = type_demands known parameter.0

pub parameters_are : (known : Known) (ps : List ParameterTree) → flat_map (parameter_type_demands known) ps ≡ flat_map (type_demands known) (parameter_types ps)
parameters_are known [] = refl
parameters_are known (p ∷ ps) = ap (λ ds. type_demands known p.0 ++ ds) (parameters_are known ps)
