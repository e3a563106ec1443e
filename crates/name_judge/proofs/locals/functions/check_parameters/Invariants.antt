use Rattle.std.proofs.Common.{◌++◌, [], ◌∷◌}
use Rattle.ir_syntax.specs.View.{parameter_view}
use Rattle.name_rules.specs.FunctionDemands.{call_demands, parameters_demands}
use Rattle.name_rules.specs.Locals.{Locals, announced_parameter}
use Rattle.name_rules.specs.TypeDemands.{type_demands}
use Rattle.type_judge.specs.Gathered.{known_of}
use Rattle.name_judge.proofs.OnLocals.Loops.{Going, whole, rest_at, then_at}
use Rattle.name_judge.proofs.locals.functions.check_parameters.Given as goal

abbrev pub invariant-parameters : goal.invariant-parameters
invariant-parameters l = (all : Locals) →
    Going l.initial.called l.called
    (whole parameter_view (λ b w. type_demands (known_of l.known) w.0 ++ call_demands b w.1) (λ w. announced_parameter w ∷ []) (parameters_demands (known_of l.known) all) l.parameters)
    (rest_at parameter_view (λ b w. type_demands (known_of l.known) w.0 ++ call_demands b w.1) (λ w. announced_parameter w ∷ []) (parameters_demands (known_of l.known) all) l.parameters l.parameter-index)
    (then_at parameter_view (λ b w. type_demands (known_of l.known) w.0 ++ call_demands b w.1) (λ w. announced_parameter w ∷ []) (parameters_demands (known_of l.known) all) l.parameters l.parameter-index)
