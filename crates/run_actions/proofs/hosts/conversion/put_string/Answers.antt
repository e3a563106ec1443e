use Rattle.ir_printf.specs.Printed.{printed_bytes}
use Rattle.run_actions.proofs.OnHosts.Put.{string_put}
use Rattle.run_actions.proofs.hosts.conversion.put_string.Goals as goal

pub returns-clause-ok : goal.returns-clause-ok
returns-clause-ok c = (
  printed_bytes c.args.conversion.now c.in-Some.bytes.now,
  string_put c.args.memory.now c.args.conversion.now c.args.string c.in-Some.bytes.now c.in-Some.ensures.told,
  c.in_ok-put_whole.ensures.ok,
)
