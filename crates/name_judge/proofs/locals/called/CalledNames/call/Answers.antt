use Rattle.std.proofs.Common.{false, subst}
use Rattle.name_rules.specs.FunctionDemands.{call_demands, called_with}
use Rattle.name_judge.specs.declared.locals.called.CalledNames.{CalledNames}
use Rattle.name_judge.specs.Locals.Calling.{Goes}
use Rattle.name_judge.proofs.locals.called.CalledNames.call.Goals as goal

pub returns-then-call_in_turn : goal.returns-then-call_in_turn
returns-then-call_in_turn c = c.call_in_turn.ensures.called c.if-call_in_turn.true

pub returns : goal.returns
returns c = subst (λ (old : CalledNames). Goes old c.call_so.new.self (λ b. call_demands b c.args.written.now) (λ b. called_with b (false, c.args.written.now)) c.call_so.result) (c.call_in_turn.ensures.same c.if-call_in_turn.false) c.call_so.ensures
