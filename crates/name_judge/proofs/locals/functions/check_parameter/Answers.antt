use Rattle.std.proofs.Common.{false, ◌++◌, subst}
use Rattle.ir_phrases.specs.Constants.View.{type_view}
use Rattle.name_rules.specs.FunctionDemands.{call_demands, called_with}
use Rattle.name_rules.specs.TypeDemands.{type_demands}
use Rattle.type_judge.specs.Gathered.{known_of}
use Rattle.name_judge.specs.declared.locals.called.CalledNames.{CalledNames}
use Rattle.name_judge.specs.Locals.Calling.{Goes}
use Rattle.name_judge.proofs.locals.functions.check_parameter.Goals as goal

pub returns-then-parameter_passes : goal.returns-then-parameter_passes
returns-then-parameter_passes c = c.parameter_passes.ensures.called (known_of c.args.known.now) c.if-parameter_passes.true

pub returns : goal.returns
returns c =
    let parameter = c.args.parameter.now in
    subst (λ (old : CalledNames). Goes old c.check_whole_parameter.new.called (λ b. type_demands (known_of c.args.known.now) (type_view parameter.ty) ++ call_demands b parameter.name) (λ b. called_with b (false, parameter.name)) c.check_whole_parameter.result)
    (c.parameter_passes.ensures.same c.if-parameter_passes.false) c.check_whole_parameter.ensures
