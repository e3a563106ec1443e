use Rattle.std.proofs.Common.{◌-◌, sym, arith}
use Rattle.body_read.proofs.OnAhead.Gathering.{none_large, none_small}
use Rattle.body_read.proofs.ahead.giving.opcode_of.Goals as goal

pub returns-then-code-lt-FIRST_LINE : goal.returns-then-code-lt-FIRST_LINE
returns-then-code-lt-FIRST_LINE c = sym (none_small c.args.code (omega arith))

pub returns-then-number-gt65535 : goal.returns-then-number-gt65535
returns-then-number-gt65535 c = sym (none_large (c.args.code - 10) (omega arith))
