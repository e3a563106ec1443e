use Rattle.std.proofs.Common.{ap, refl}
use Rattle.tool_output.specs.declared.ends.ended.Ended.TheVariants.{CannotRead, CannotWrite}
use Rattle.tool_cli.proofs.running.fault_told.Goals as goal

pub returns-in-ReadFault : goal.returns-in-ReadFault
returns-in-ReadFault c = rw c.in-ReadFault.is (ap CannotRead c.requires)

pub returns-in-WriteFault : goal.returns-in-WriteFault
returns-in-WriteFault c = rw c.in-WriteFault.is (ap CannotWrite c.requires)

pub returns-in-Memory : goal.returns-in-Memory
returns-in-Memory c = rw c.in-Memory.is refl
