use Rattle.std.proofs.Common.{refl}
use Rattle.bitcode_read.proofs.OnHead.Gathering.{counts_variable, counts_function, counts_alias, counts_other}
use Rattle.bitcode_read.proofs.head.ahead.counted.Goals as goal

pub returns-then-code-eq-VARIABLE : goal.returns-then-code-eq-VARIABLE
returns-then-code-eq-VARIABLE c = counts_variable c.args.code _ _ c.if-code-eq-VARIABLE.true c.in_ok-now.ensures refl refl

pub returns-then-code-eq-FUNCTION : goal.returns-then-code-eq-FUNCTION
returns-then-code-eq-FUNCTION c = counts_function c.args.code _ _ c.if-code-eq-FUNCTION.true refl c.in_ok-now-2.ensures refl

pub returns-then-code-eq-ALIAS : goal.returns-then-code-eq-ALIAS
returns-then-code-eq-ALIAS c = counts_alias c.args.code _ _ c.if-code-eq-ALIAS.true refl refl c.in_ok-now-3.ensures

pub returns : goal.returns
returns c = counts_other c.args.code _ c.if-code-eq-VARIABLE.false c.if-code-eq-FUNCTION.false c.if-code-eq-ALIAS.false
