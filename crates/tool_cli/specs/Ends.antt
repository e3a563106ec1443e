-- For `run_tool`: how a run ends, and what it reads and writes: each promise of it that is no part of the headline.
use Rattle.std.specs.Prelude.{◌≡◌, ◌⊎◌, ℕ, true, false, List}
use Rattle.ir_base.specs.Files.{Named}
use Rattle.ir_base.specs.Outside.{Rose}
use Rattle.command_line.specs.declared.command.Command.{Command}
use Rattle.command_line.specs.declared.command.UsageKind.{UsageKind}
use Rattle.command_line.specs.Commands.{IsReadAs}
use Rattle.command_line.specs.Faults.{IsFirstFault}
use Rattle.tool_output.specs.declared.ends.ended.Ended.{Ended}
use Rattle.tool_output.specs.declared.ends.ended.Ended.TheVariants.{Usage, Memory}
use Rattle.tool_output.specs.declared.ends.ended.Ended.TheVariants as ends
use Rattle.tool_cli.specs.Analyzed.{analyzes, IsBeforeWork}
use Rattle.tool_cli.specs.Causes.{IsEmptied, IsStopped}
use Rattle.tool_cli.specs.Inputs.{inputs_named, inputs_of, has_stdin, listens, runs, TellsAll, TellsRun}
use Rattle.tool_cli.specs.Order.{has_file, IsInTurn, KeepsOrder, KeepsTurn}
use Rattle.tool_cli.specs.Output.{output_named, IsShown, LeavesNamed, LeavesStandard}
use Rattle.tool_cli.specs.Reads.{HasCauses, LeavesBehind, LeavesUnread}
use Rattle.tool_cli.specs.Running.{IsPlayed, IsUnbegun}
use Rattle.tool_cli.specs.Told.{HasResult, IsAfterReading, IsTold}
use Rattle.tool_cli.specs.World.{World, outputs_of, outside_of}

-- nothing was read or written
abbrev pub IsUntouched : {I O F : Type 0} → World I O F → World I O F → Type 0
IsUntouched before now = (now.input ≡ before.input) × (now.files ≡ before.files) × (now.output ≡ before.output)

-- the run of these words ends so, and does this to the world
pub record EndsAs {I O F : Type 0} (words : List (List ℕ)) (before now : World I O F) (ended : Ended) : Type 0 where
  -- what is answered: a usage error only where it is the first fault of the words
  pub usage : (kind : UsageKind) (k : ℕ) → ended ≡ Usage kind k → IsFirstFault words kind k
  -- and where there is one, it is told, or memory ran out
  pub is_usage : (kind : UsageKind) (k : ℕ) → IsFirstFault words kind k → (ended ≡ Usage kind k) ⊎ (ended ≡ Memory)
  -- where the outside tells all that the run depends on, its end is the one that words, files and standard input have, or it stopped
  pub told : (held : Named) (stdin : List ℕ) → TellsRun words before.contents before.left held stdin
      → IsTold words held stdin ended ⊎ IsStopped words before now ended
  -- and there is no other (`one_end`): an end that they have is the answer, or the run stopped
  pub complete : (held : Named) (stdin : List ℕ)
      → TellsRun words before.contents before.left held stdin
      → (end : Ended) → IsTold words held stdin end
      → (ended ≡ end) ⊎ IsStopped words before now ended
  -- so where the command has a result, the answer is `Ok`, or the run stopped
  pub succeeds : (held : Named) (stdin : List ℕ)
      → TellsRun words before.contents before.left held stdin
      → HasResult words held stdin
      → (ended ≡ ends.Ok) ⊎ IsStopped words before now ended
  -- what could not be read or written has its cause, and what failed is told
  pub causes : HasCauses words before now ended
  -- what is read and written: nothing where the words have a fault
  pub before_reading : (kind : UsageKind) (k : ℕ) → IsFirstFault words kind k → IsUntouched before now
  -- standard input is untouched where an input before it is refused
  pub order : KeepsOrder (inputs_named words) before.input now.input ended
  -- and where the files are told, and refuse one, whatever the answer
  pub turn : KeepsTurn before.contents (inputs_named words) before.input now.input
  -- which then is that refusal
  pub in_turn : (command : Command) → IsReadAs words command → IsInTurn before.contents (Rose before.read_faults now.read_faults) (inputs_of command) ended
  -- what is no input, and not read by a program, is as it was, and so are the files where none was written
  pub untouched : LeavesUnread
      ((has_stdin (inputs_named words) ≡ false) × (listens words ≡ false))
      ((has_file (inputs_named words) ≡ false) × LeavesNamed (output_named words) ended)
      before.input now.input before.files now.files
  -- standard input is read whole, where it is an input and all were read
  pub whole : IsAfterReading ended → has_stdin (inputs_named words) ≡ true → IsEmptied now.left
  -- what is left of standard input and of the files
  pub leaves : LeavesBehind words before now ended
  -- where the outside tells what the inputs hold, the result of the command is where it goes
  pub shown : (held : Named) (stdin : List ℕ) → TellsAll (inputs_named words) before.contents before.left held stdin
      → IsShown words held stdin (outputs_of before) (outputs_of now) ended
  -- standard output is untouched where no result goes there, and before one is written
  pub unwritten : analyzes words ≡ false → runs words ≡ false → LeavesStandard (output_named words) ended → now.output ≡ before.output
  -- and before the tool did any work
  pub before_work : IsBeforeWork (listens words) ended → now.output ≡ before.output
  -- so is it before a program has begun, and standard input where that reads it
  pub not_begun : (command : Command) → IsReadAs words command → IsUnbegun command ended
      → (listens words ≡ true → now.input ≡ before.input) × (now.output ≡ before.output)
  -- where the outside tells what the inputs hold, a program puts, reads and answers what its module says
  pub played : (held : Named) (stdin : List ℕ) → TellsAll (inputs_named words) before.contents before.left held stdin
      → IsPlayed words held stdin (outside_of before) (outside_of now) ended
