-- For `halt` of what makes steps, and how the code of `run` reads: what is answered where no step is left.
use Rattle.std.specs.Prelude.{Result, Ok, Err}
use Rattle.run_rules.specs.declared.end.End.{End}
use Rattle.run_rules.specs.declared.fault.RunFault.{RunFault}
use Rattle.run_rules.specs.declared.fault.RunFault.TheVariants.{ReadFault, WriteFault, Memory}
use Rattle.run_rules.specs.Clauses.{Outside}
use Rattle.run_rules.specs.Machine.{Machine}
use Rattle.run_rules.specs.RunClauses.{Halted, CouldNotHalt, WantedToHalt}

-- the run ends, or what was put out could not be written, or memory was wanted
abbrev pub Finishes : Result End RunFault → Machine → Machine → Outside → Outside → Type 0
Finishes (Ok end) old new before after = Halted end old new before after
Finishes (Err ReadFault) old new before after = ⊥
Finishes (Err WriteFault) old new before after = CouldNotHalt old new before after
Finishes (Err Memory) old new before after = WantedToHalt old new before after
