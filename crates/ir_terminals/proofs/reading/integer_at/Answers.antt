use Rattle.std.proofs.Common.{sym, ◌∙◌}
use Rattle.ir_terminals.proofs.NumberNames.{behind_mark}
use Rattle.ir_terminals.proofs.NumberTokens.{digits_behind_minus, digits_alone}
use Rattle.ir_terminals.proofs.reading.integer_at.Goals as goal

pub of_digits-requires : goal.of_digits-requires
of_digits-requires c = rw (behind_mark c.args.spelling.now) (digits_behind_minus c.args.spelling.now (sym c.is_negative-negative.ensures ∙ c.if-negative.true) c.requires)

pub of_digits-requires-else-negative : goal.of_digits-requires-else-negative
of_digits-requires-else-negative c = digits_alone c.args.spelling.now (sym c.is_negative-negative.ensures ∙ c.if-negative.false) c.requires
