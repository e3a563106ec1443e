use Rattle.std.proofs.Common.{Ok, Err, sym}
use Rattle.run_actions.specs.declared.stack.origin.Origin.TheVariants.{Known}
use Rattle.run_actions.proofs.OnAccesses.Loading.{loads_alike}
use Rattle.run_actions.proofs.accesses.loads.load_read.Goals as goal

pub returns-in-Ok-clause-loads : goal.returns-in-Ok-clause-loads
returns-in-Ok-clause-loads c =
    let a = c.args in
    loads_alike a.to a.align a._from.now (Known a.address) a.slots.now a.stack.now c.load_any.new.stack a.memory.now a.memory.now (Ok tt) (sym c.requires.read) c.in-Ok.ensures.loads

pub returns-in-Err-clause-loads : goal.returns-in-Err-clause-loads
returns-in-Err-clause-loads c =
    let a = c.args in
    loads_alike a.to a.align a._from.now (Known a.address) a.slots.now a.stack.now c.load_any.new.stack a.memory.now a.memory.now (Err c.in-Err.fault) (sym c.requires.read) c.in-Err.ensures.loads
