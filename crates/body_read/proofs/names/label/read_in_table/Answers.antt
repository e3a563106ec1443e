use Rattle.std.proofs.Common.{◌-◌, arith}
use Rattle.body_read.proofs.OnNames.Tame.{table_called_none, table_called}
use Rattle.body_read.proofs.names.label.read_in_table.Goals as goal

pub returns-then-number-eq0 : goal.returns-then-number-eq0
returns-then-number-eq0 c = table_called_none c.args.table.now c.args.own _ _ _ c.number-number.ensures c.if-number-eq0.true

pub returns : goal.returns
returns c =
    table_called c.args.table.now c.args.own _ _ _ _ _ _ (c.number-number.result - 1) _ _ _ c.number-number.ensures (omega (arith, c.if-number-eq0.false)) c.number-offset.ensures c.in_ok-text.ensures.is c.in_ok-text.ensures.none
    c.read_local_name.ensures
