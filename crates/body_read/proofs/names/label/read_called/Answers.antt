use Rattle.body_read.proofs.OnNames.Tame.{inline_called}
use Rattle.body_read.proofs.names.label.read_called.Goals as goal

pub returns-in-Inline : goal.returns-in-Inline
returns-in-Inline c = inline_called c.read_label.result c.args.texts.now c.args.own _ _ c.in-Inline.is c.read_label.ensures
