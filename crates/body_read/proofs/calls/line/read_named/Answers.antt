use Rattle.body_read.proofs.OnCalls.Lines.{giving_line}
use Rattle.body_read.proofs.calls.line.read_named.Goals as goal

pub returns : goal.returns
returns c =
    giving_line c.args.texts.now c.args.own c.args.defined c.args.opcode c.args.m.now c.read_label.new.reader c.read_operation.new.m c.in_ok-name.name c.in_ok-instruction.instruction c.unless_broken.result c.requires c.in_ok-name.ensures
    c.in_ok-instruction.ensures c.unless_broken.ensures
