use Rattle.ir_lexer.specs.Class.{is_digit}
use Rattle.ir_lexer.proofs.Runs.{run_all}
use Rattle.ir_lexer.proofs.names.is_number.Goals as goal

pub returns : goal.returns
returns c = rw (c.run_of.ensures.count, c.bare_name-digits.ensures) (run_all is_digit _)
