use Rattle.std.proofs.Common.{arith, sym, [], ◌∷◌}
use Rattle.std.proofs.lemmas.List.{take_all}
use Rattle.ir_syntax.specs.View.{parameter_view}
use Rattle.name_rules.specs.Locals.{announced_parameter}
use Rattle.name_judge.proofs.OnLocals.Loops.{flat_more}
use Rattle.name_judge.proofs.OnLocals.Named.{announces_none, announces_both}
use Rattle.name_judge.proofs.locals.gathered.add_parameters.Goals as goal

pub parameters-init : goal.parameters-init
parameters-init c = announces_none _

pub parameters-preserved : goal.parameters-preserved
parameters-preserved c =
    rw (flat_more (λ p. announced_parameter p ∷ []) parameter_view c.args.parameters.now c.parameters.parameter-index c.parameter-item.result (omega arith) c.parameter-item.is)
    (announces_both _ _ _ _ _ c.parameters.invariant c.in_ok-put.ensures)

pub returns : goal.returns
returns c = rw (sym (take_all c.parameters.parameter-index c.args.parameters.now (omega arith))) c.parameters.invariant
