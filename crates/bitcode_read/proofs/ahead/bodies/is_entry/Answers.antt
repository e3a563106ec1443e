use Rattle.bitcode_read.proofs.OnAhead.Counting.{alias_is, function_is, variable_is}
use Rattle.bitcode_read.proofs.ahead.bodies.is_entry.Goals as goal

pub returns-then-code-eq-VARIABLE : goal.returns-then-code-eq-VARIABLE
returns-then-code-eq-VARIABLE c = variable_is c.args.code c.if-code-eq-VARIABLE.true

pub returns-then-code-eq-FUNCTION : goal.returns-then-code-eq-FUNCTION
returns-then-code-eq-FUNCTION c = function_is c.args.code c.if-code-eq-FUNCTION.true

pub returns : goal.returns
returns c = alias_is c.args.code c.if-code-eq-VARIABLE.false c.if-code-eq-FUNCTION.false
