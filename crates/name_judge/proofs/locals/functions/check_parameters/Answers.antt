use Rattle.std.proofs.Common.{◌≡◌, arith, refl, sym, subst, List, ◌++◌, [], ◌∷◌, map, append_assoc, Ok}
use Rattle.std.proofs.lemmas.Result.{err_from_is_err_and}
use Rattle.ir_syntax.specs.Tree.{ParameterTree}
use Rattle.ir_syntax.specs.View.{parameter_view}
use Rattle.name_rules.specs.FunctionDemands.{Called, called_after, call_demands, parameters_demands}
use Rattle.name_rules.specs.Locals.{Locals, Announced, announced_parameter}
use Rattle.name_rules.specs.TypeDemands.{Known, type_demands}
use Rattle.type_judge.specs.Gathered.{known_of}
use Rattle.name_judge.specs.Locals.Calling.{Goes}
use Rattle.name_judge.proofs.OnLocals.Calls.{singles}
use Rattle.name_judge.proofs.OnLocals.Loops.{going_start, going_next, going_fails, going_end}
use Rattle.name_judge.proofs.locals.functions.check_parameters.Goals as goal

more : (known : Known) (all : Locals) (b : Called) (y : ParameterTree) (ys : List ParameterTree)
    → parameters_demands known all b (y ∷ ys) ≡ (type_demands known y.0 ++ call_demands b y.1) ++ parameters_demands known all (called_after b (announced_parameter y ∷ [])) ys
more known all b y ys = sym (append_assoc (type_demands known y.0) (call_demands b y.1) (parameters_demands known all (called_after b (announced_parameter y ∷ [])) ys))

pub parameters-init : goal.parameters-init
parameters-init c all = going_start parameter_view (λ b w. type_demands (known_of c.args.known.now) w.0 ++ call_demands b w.1) (λ w. announced_parameter w ∷ []) (parameters_demands (known_of c.args.known.now) all) c.args.parameters.now _

pub parameters-preserved : goal.parameters-preserved
parameters-preserved c all =
    let known = known_of c.args.known.now in
    going_next parameter_view (λ b w. type_demands known w.0 ++ call_demands b w.1) (λ w. announced_parameter w ∷ []) (parameters_demands known all) c.args.parameters.now (λ b. refl) (more known all)
    c.parameters.parameter-index c.parameter-item.result (omega arith) c.parameter-item.is _ _ _ c.in_ok-check_parameter.ensures (c.parameters.invariant all)

pub returns-in_err-check_parameter : goal.returns-in_err-check_parameter
returns-in_err-check_parameter c all =
    let known = known_of c.args.known.now in
    let p = err_from_is_err_and c.from_residual.result c.from_residual.ensures.1 in
    rw (p.1, p.2)
    (going_fails parameter_view (λ b w. type_demands known w.0 ++ call_demands b w.1) (λ w. announced_parameter w ∷ []) (parameters_demands known all) c.args.parameters.now (λ b. refl) (more known all)
    c.parameters.parameter-index c.parameter-item.result (omega arith) c.parameter-item.is _ _ _ _ _ _ c.in_err-check_parameter.ensures (c.parameters.invariant all))

pub returns : goal.returns
returns c all =
    let known = known_of c.args.known.now in
    subst (λ (told : List Announced). Goes c.args.called.now c.parameters.called (λ b. parameters_demands known all b (map parameter_view c.args.parameters.now)) (λ b. called_after b told) (Ok tt)) (singles (map parameter_view c.args.parameters.now))
    (going_end parameter_view (λ b w. type_demands known w.0 ++ call_demands b w.1) (λ w. announced_parameter w ∷ []) (parameters_demands known all) c.args.parameters.now (λ b. refl) (more known all) c.parameters.parameter-index (omega arith) _ _ (c.parameters.invariant all))
