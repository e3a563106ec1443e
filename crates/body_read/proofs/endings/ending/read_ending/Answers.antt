use Rattle.body_read.proofs.OnEndings.Parts.{unless_broken}
use Rattle.body_read.proofs.endings.ending.read_ending.Goals as goal

pub returns : goal.returns
returns c = unless_broken c.args.opcode c.args.m.now c.read_any.new.m c.in_ok-ending.ending c.unless_broken.result c.in_ok-ending.ensures c.unless_broken.ensures
