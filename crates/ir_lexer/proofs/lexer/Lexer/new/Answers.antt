use Rattle.std.proofs.Common.{arith}
use Rattle.ir_lexer.proofs.Placing.{place_at_start}
use Rattle.ir_lexer.proofs.lexer.Lexer.new.Goals as goal

pub invariant_of-result : goal.invariant_of-result
invariant_of-result c = (omega arith, c.requires, place_at_start c.args.text.now, omega arith, λ less. absurd (omega arith))
