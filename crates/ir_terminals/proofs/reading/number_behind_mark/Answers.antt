use Rattle.ir_terminals.proofs.NumberNames.{behind_mark}
use Rattle.ir_terminals.proofs.NumberTokens.{digits_behind_mark}
use Rattle.ir_terminals.proofs.reading.number_behind_mark.Goals as goal

pub of_digits-requires : goal.of_digits-requires
of_digits-requires c = rw (behind_mark c.args.spelling.now) (digits_behind_mark c.args.spelling.now c.requires)
