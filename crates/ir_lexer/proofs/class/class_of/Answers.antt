use Rattle.std.proofs.Common.{◌<◌, arith}
use Rattle.ir_lexer.proofs.ClassTable.{class_in_table}
use Rattle.ir_lexer.proofs.class.class_of.Goals as goal

pub returns : goal.returns
returns c = let fits : c.args.byte < 256 = omega arith in rw c.from.ensures (class_in_table c.args.byte _ fits)
