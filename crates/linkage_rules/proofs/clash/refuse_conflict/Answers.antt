use Rattle.std.proofs.Common.{sym, ap}
use Rattle.linkage_rules.specs.Grouped.{first_of}
use Rattle.linkage_rules.specs.Ids.{modules}
use Rattle.linkage_rules.proofs.clash.refuse_conflict.Goals as goal

pub loop-symbol-init : goal.loop-symbol-init
loop-symbol-init c = sym (ap (first_of (modules c.args.parts.now)) c.requires.symbols)
