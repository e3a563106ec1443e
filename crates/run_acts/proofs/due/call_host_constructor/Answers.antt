use Rattle.std.proofs.Common.{[], ap}
use Rattle.module_arena.specs.declared.host.HostRow.{HostRow}
use Rattle.run_actions.specs.Carried.{core_of}
use Rattle.run_rules.specs.Calls.{called}
use Rattle.run_rules.specs.Due.{constructor_type}
use Rattle.run_rules.specs.Look.{host_of}
use Rattle.run_acts.proofs.FirstCalls.{host_refused}
use Rattle.run_acts.proofs.due.call_host_constructor.Goals as goal

pub returns-in-Abort-clause-called : goal.returns-in-Abort-clause-called
returns-in-Abort-clause-called c = λ due m. ap (λ (r : HostRow). called (host_of r) constructor_type [] [] 0 (core_of [] due m)) c.in-Abort.is

pub returns-in_default-clause-called : goal.returns-in_default-clause-called
returns-in_default-clause-called c = host_refused c.args.row c.in_default.not-Abort c.fails.result c.fails.ensures
