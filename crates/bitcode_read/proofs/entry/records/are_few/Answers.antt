use Rattle.bitcode_read.proofs.OnEntry.Ended.{fewer_fit}
use Rattle.bitcode_read.proofs.entry.records.are_few.Goals as goal

pub returns : goal.returns
returns c = fewer_fit c.args.number c.args.others 262144
