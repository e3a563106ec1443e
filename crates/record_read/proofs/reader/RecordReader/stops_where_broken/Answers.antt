use Rattle.record_read.proofs.Asking.{stops_broken}
use Rattle.record_read.proofs.reader.RecordReader.stops_where_broken.Goals as goal

pub returns : goal.returns
returns c = rw (← c.self.view_is) (stops_broken c.self.inside.stopped c.self.inside.broken c.self.inside.walker.operands c.self.invariant)
