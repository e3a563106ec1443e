use Rattle.std.proofs.Common.{◌-◌, arith}
use Rattle.record_read.proofs.Sized.{inline_label_none, inline_label}
use Rattle.record_read.proofs.texts.read_inline_label.Goals as goal

pub returns-then-number-eq0 : goal.returns-then-number-eq0
returns-then-number-eq0 c = inline_label_none c.args.own _ _ _ c.number-number.ensures c.if-number-eq0.true

pub returns : goal.returns
returns c = inline_label c.args.own _ _ _ _ _ (c.number-number.result - 1) _ _ c.number-number.ensures (omega (arith, c.if-number-eq0.false)) c.in_ok-text.ensures c.read_local_name.ensures
