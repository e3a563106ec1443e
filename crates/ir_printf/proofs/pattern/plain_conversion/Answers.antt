use Rattle.std.proofs.Common.{sym}
use Rattle.ir_printf.proofs.Letters.{first_letter}
use Rattle.ir_printf.proofs.pattern.plain_conversion.Goals as goal

pub returns-clause-conversion : goal.returns-clause-conversion
returns-clause-conversion c = (first_letter c.args.bytes.now c.in_ok-kind.kind (sym c.in_ok-kind.ensures.kind)).0

pub returns-clause-end : goal.returns-clause-end
returns-clause-end c = (first_letter c.args.bytes.now c.in_ok-kind.kind (sym c.in_ok-kind.ensures.kind)).1
