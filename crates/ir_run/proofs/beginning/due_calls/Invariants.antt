use Rattle.std.proofs.Common.{◌≡◌, map, take}
use Rattle.ir_run.proofs.OpenedRun.{call_of}
use Rattle.ir_run.proofs.beginning.due_calls.Given as goal

-- the calls of the constructors so far
abbrev pub invariant-each : goal.invariant-each
invariant-each l = l.calls.items ≡ map call_of (take l.constructor-index l.constructor-items)
