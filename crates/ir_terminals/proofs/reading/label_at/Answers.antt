use Rattle.std.proofs.Common.{sym, ◌∙◌}
use Rattle.ir_terminals.proofs.NumberTokens.{label_digits}
use Rattle.ir_terminals.proofs.reading.label_at.Goals as goal

pub of_digits-requires : goal.of_digits-requires
of_digits-requires c = label_digits c.args.spelling.now c.requires (sym c.is_number.ensures ∙ c.if-is_number.true)
