-- For `of_run`, `of_step`, `answer` and `step_answer` of `ToldEnd`: what was answered.
use Rattle.std.specs.Prelude.{Result, Ok, Err}
use Rattle.run_rules.specs.declared.end.End.TheVariants as ends
use Rattle.run_rules.specs.declared.fault.RunFault.{RunFault}
use Rattle.run_rules.specs.declared.end.End.{End}
use Rattle.run_actions.specs.declared.passing.told.ToldEnd.{ToldEnd}
use Rattle.run_actions.specs.declared.passing.told.ToldEnd.TheVariants.{Exit, Undefined, StepsUsed, StackLimit, MemoryLimit, Failed}

-- the end or the fault that is meant
abbrev pub told_seen : ToldEnd → Result End RunFault
told_seen (Exit status) = Ok (ends.Exit status)
told_seen (Undefined kind) = Ok (ends.Undefined kind)
told_seen StepsUsed = Ok ends.StepsUsed
told_seen StackLimit = Ok ends.StackLimit
told_seen MemoryLimit = Ok ends.MemoryLimit
told_seen (Failed fault) = Err fault
