use Rattle.std.proofs.Common.{sym, ap, ◌∙◌}
use Rattle.bit_dump.specs.Walk.Walker.{Walker}
use Rattle.bit_dump.proofs.Told.{operands_untold}
use Rattle.bit_dump.proofs.Telling.{whole_is, where_ok}
use Rattle.bit_dump.proofs.pieces.tell_values.Goals as goal

pub returns-then-is_whole-clause-left : goal.returns-then-is_whole-clause-left
returns-then-is_whole-clause-left g c = where_ok c.tell_operands.result (ap (λ (w : Walker). w.left)) c.tell_operands.ensures.walker

pub returns-then-is_whole-clause-spent : goal.returns-then-is_whole-clause-spent
returns-then-is_whole-clause-spent g c = where_ok c.tell_operands.result (ap (λ (w : Walker). w.spent)) c.tell_operands.ensures.walker

pub returns-then-is_whole-clause-has_blob : goal.returns-then-is_whole-clause-has_blob
returns-then-is_whole-clause-has_blob g c = where_ok c.tell_operands.result (ap (λ (w : Walker). w.has_blob)) c.tell_operands.ensures.walker

pub returns-then-is_whole-clause-blob : goal.returns-then-is_whole-clause-blob
returns-then-is_whole-clause-blob g c = where_ok c.tell_operands.result (ap (λ (w : Walker). w.blob)) c.tell_operands.ensures.walker

pub returns-clause-told : goal.returns-clause-told
returns-clause-told g c = λ before all h. rw (operands_untold all c.args.walker.now.operands (whole_is h ∙ (sym c.is_whole.ensures ∙ c.if-is_whole.false))) h
