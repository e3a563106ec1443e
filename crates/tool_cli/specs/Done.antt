-- Says how the code of `run_tool` reads: what the work of a command comes to that has a result, and what writing that leaves.
use Rattle.std.specs.Prelude.{◌≡◌, ◌⊎◌, ℕ, ◌<◌, List, Option}
use Rattle.ir_base.specs.Outside.{Rose}
use Rattle.command_line.specs.declared.command.Command.{Command}
use Rattle.command_line.specs.declared.command.OutputName.{OutputName}
use Rattle.tool_output.specs.declared.ends.ended.Ended.{Ended}
use Rattle.tool_output.specs.declared.ends.ended.Ended.TheVariants.{CannotWrite}
use Rattle.tool_output.specs.Outputs.{outputs}
use Rattle.tool_cli.specs.Output.{output_of, FailsToWrite, IsFileUnwritten, IsUnwritten, IsUnwrittenOrMemory, IsWritten, LeavesFilesBut, LeavesNamed, LeavesStandard}
use Rattle.tool_cli.specs.Told.{IsOfWork, IsWork}
use Rattle.tool_cli.specs.World.{Sinks}

-- the end is that of this command, whose inputs are these texts, or its result could not be written
abbrev pub EndsWork : {O F : Type 0} → Command → List (List ℕ) → Sinks O F → Sinks O F → Ended → Type 0
EndsWork command texts before now ended =
    IsWork command texts ended
    ⊎ FailsToWrite (output_of command) (Rose before.output_faults now.output_faults) (Rose before.write_faults now.write_faults) ended

-- what work leaves of standard output and of the files, by its end, whose result goes to this place
pub record LeavesSinks {O F : Type 0} (place : Option OutputName) (before now : Sinks O F) (ended : Ended) : Type 0 where
  -- what could not be written is the output, and a write of it failed
  pub cannot_write : (name : List ℕ) → ended ≡ CannotWrite name
      → IsUnwritten place (Rose before.output_faults now.output_faults) (Rose before.write_faults now.write_faults) name
  -- a fault of standard output is told, or memory ran out
  pub output_fault : before.output_faults < now.output_faults → IsUnwrittenOrMemory ended
  -- so is one of a write of a file
  pub write_fault : before.write_faults < now.write_faults → IsFileUnwritten place ended
  -- what became of the files
  pub files : LeavesFilesBut place ended before.contents now.contents before.read_faults now.read_faults before.write_faults now.write_faults
  -- none was read
  pub reads : now.read_faults ≡ before.read_faults
  -- they are as they were where no result goes to one, and before it is written
  pub files_unwritten : LeavesNamed place ended → now.files ≡ before.files

-- this command, whose inputs are these texts, was done to this end
pub record IsDone {O F : Type 0} (command : Command) (texts : List (List ℕ)) (before now : Sinks O F) (ended : Ended) : Type 0 where
  -- the end is that of the command, or its result could not be written
  pub work : EndsWork command texts before now ended
  -- it is an end of work
  pub of_work : IsOfWork ended
  -- the result is where it goes
  pub written : IsWritten command texts (outputs before.taken before.contents) (outputs now.taken now.contents) ended
  -- what is left of outputs
  pub leaves : LeavesSinks (output_of command) before now ended
  -- standard output is as it was where no result goes there, and before it is written
  pub unwritten : LeavesStandard (output_of command) ended → now.output ≡ before.output
