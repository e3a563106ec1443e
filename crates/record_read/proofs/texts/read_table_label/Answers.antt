use Rattle.std.proofs.Common.{◌-◌, arith}
use Rattle.record_read.proofs.Sized.{table_label_none, table_label}
use Rattle.record_read.proofs.texts.read_table_label.Goals as goal

pub returns-then-number-eq0 : goal.returns-then-number-eq0
returns-then-number-eq0 c = table_label_none c.args.table.now c.args.own _ _ _ c.number-number.ensures c.if-number-eq0.true

pub returns : goal.returns
returns c = table_label c.args.table.now c.args.own _ _ _ _ _ _ (c.number-number.result - 1) _ _ _ c.number-number.ensures (omega (arith, c.if-number-eq0.false)) c.number-offset.ensures c.in_ok-text.ensures c.read_local_name.ensures
