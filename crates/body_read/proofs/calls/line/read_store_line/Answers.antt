use Rattle.body_read.proofs.OnCalls.Lines.{store_line}
use Rattle.body_read.proofs.calls.line.read_store_line.Goals as goal

pub returns : goal.returns
returns c = λ texts defined own. store_line texts own defined c.args.m.now c.read_store.new.m c.in_ok-instruction.instruction c.unless_broken.result c.in_ok-instruction.ensures c.unless_broken.ensures
