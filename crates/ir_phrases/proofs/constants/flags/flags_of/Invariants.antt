use Rattle.std.proofs.Common.{◌≡◌, length}
use Rattle.ir_terminals.specs.PhraseRows.Row.{loop}
use Rattle.ir_terminals.specs.Position.{tokens_left}
use Rattle.ir_terminals.specs.Role.{class}
use Rattle.ir_phrases.specs.Constants.Flags.{flag_shape, flag_step, flags_row}
use Rattle.ir_phrases.proofs.constants.flags.flags_of.Given as goal

abbrev pub invariant-flags : goal.invariant-flags
invariant-flags l = record {
  so_far : (loop class flag_shape (flag_step l.opcode) l.flags).run (tokens_left l.cursor) ≡ (flags_row l.opcode).run (tokens_left l.fn.cursor);
  limits : l.cursor.limits ≡ l.fn.cursor.limits;
  text : l.cursor.text ≡ l.fn.cursor.text;
}

abbrev pub decreases-flags : goal.decreases-flags
decreases-flags l = length (tokens_left l.cursor)
