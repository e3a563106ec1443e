-- For `open`, `steps`, `step` and `run` of `Machine`: how a clause sees a machine.
use Rattle.std.specs.Prelude.{ℕ, Bool, List, Option, None, Result}
use Rattle.module_arena.specs.Lists.{Lists}
use Rattle.module_arena.specs.View.{module_of}
use Rattle.run_rules.specs.declared.end.End.{End}
use Rattle.run_rules.specs.declared.fault.RunFault.{RunFault}
use Rattle.run_rules.specs.Machine as rules
use Rattle.run_rules.specs.State.{Core}

-- a run, with the bytes that wait in place of its input and output: the module is the one with these lists
pub record Going : Type 0 where
  pub lists : Lists
  pub core : Core
  pub steps : ℕ
  pub unused : List ℕ
  pub closed : Bool
  pub unwritten : List ℕ

-- the same as a machine that has answered this
abbrev pub machine_of : Option (Result End RunFault) → Going → rules.Machine
machine_of answer g = record {
  program = module_of g.lists;
  core = g.core;
  steps = g.steps;
  unused = g.unused;
  closed = g.closed;
  unwritten = g.unwritten;
  answer = answer;
}

-- as a machine that has answered nothing
abbrev pub the_machine : Going → rules.Machine
the_machine g = machine_of None g

-- a run, and what was answered
pub record Answering : Type 0 where
  pub going : Going
  pub answer : Option (Result End RunFault)

-- the same as a machine
abbrev pub machine_seen : Answering → rules.Machine
machine_seen a = machine_of a.answer a.going
