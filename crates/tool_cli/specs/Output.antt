-- For `run_tool`: where the result of a command goes, and what is written there, by the end of the run.
use Rattle.std.specs.Prelude.{◌≡◌, ◌⊎◌, ℕ, ◌≤◌, true, false, List, drop, codes, Option, Some, None, Result, Ok, Err, IsSomeAnd}
use Rattle.ir_base.specs.Files.{Named, Holds}
use Rattle.command_line.specs.declared.command.Command.{Command}
use Rattle.command_line.specs.declared.command.Command.TheVariants.{Assemble, Disassemble, Link, Extract, Lli, Analyze}
use Rattle.command_line.specs.declared.command.OutputName.{OutputName}
use Rattle.command_line.specs.declared.command.OutputName.TheVariants.{Standard, File}
use Rattle.command_line.specs.Tools.{tool_of}
use Rattle.command_line.specs.Commands.{IsReadAs, command_behind}
use Rattle.tool_output.specs.Outputs.{Outputs, told_name, IsPut, IsPartlyPut}
use Rattle.tool_output.specs.declared.ends.ended.Ended.{Ended}
use Rattle.tool_output.specs.declared.ends.ended.Ended.TheVariants.{CannotWrite, Memory}
use Rattle.tool_output.specs.declared.ends.ended.Ended.TheVariants as ends
use Rattle.tool_cli.specs.Analyzed.{is_analysis}
use Rattle.tool_cli.specs.Inputs.{inputs_of, runs_program, texts_read}
use Rattle.tool_cli.specs.Made.{IsResult}

-- where the result of a command goes, and what a program prints
abbrev pub output_of : Command → Option OutputName
output_of (Assemble input output) = Some output
output_of (Disassemble input output) = Some output
output_of (Link inputs output text) = Some output
output_of (Extract input output text selection) = Some output
output_of (Lli input max_steps arguments) = Some Standard
output_of (Analyze input dump) = Some Standard

-- the output of the command, where there is one
abbrev pub output_behind : Option Command → Option OutputName
output_behind None = None
output_behind (Some command) = output_of command

-- where the result of the command goes that the words are read as
unfoldable pub output_named : List (List ℕ) → Option OutputName
output_named words = output_behind (command_behind (tool_of words) (drop 1 words))

-- Why a result was not written. `output_rose` and `writes_rose` say that the count of faults of standard output, or of writes of files, rose.

-- a write of the output failed, of which this is the name
abbrev pub IsUnwritten : Option OutputName → Type 0 → Type 0 → List ℕ → Type 0
IsUnwritten None output_rose writes_rose name = ⊥
IsUnwritten (Some Standard) output_rose writes_rose name = (name ≡ codes "-") × output_rose
IsUnwritten (Some (File file)) output_rose writes_rose name = (name ≡ file) × writes_rose

-- the run stopped since the output could not be written, or memory ran out
abbrev pub FailsToWrite : Option OutputName → Type 0 → Type 0 → Ended → Type 0
FailsToWrite output output_rose writes_rose (CannotWrite name) = IsUnwritten output output_rose writes_rose name
FailsToWrite output output_rose writes_rose Memory = Unit {0}
FailsToWrite output output_rose writes_rose ended = ⊥

-- standard output could not be written, or memory ran out
abbrev pub IsUnwrittenOrMemory : Ended → Type 0
IsUnwrittenOrMemory (CannotWrite name) = name ≡ codes "-"
IsUnwrittenOrMemory Memory = Unit {0}
IsUnwrittenOrMemory ended = ⊥

-- the output is a file, and could not be written
abbrev pub IsFileUnwritten : Option OutputName → Ended → Type 0
IsFileUnwritten (Some (File file)) ended = ended ≡ CannotWrite file
IsFileUnwritten output ended = ⊥

-- What is left alone.

-- an end before anything of a result is written
abbrev pub IsBeforeWriting : Ended → Type 0
IsBeforeWriting ends.Ok = ⊥
IsBeforeWriting (CannotWrite name) = ⊥
IsBeforeWriting ended = Unit {0}

-- nothing is written to standard output: no result goes there, or the end comes before
abbrev pub LeavesStandard : Option OutputName → Ended → Type 0
LeavesStandard (Some Standard) ended = IsBeforeWriting ended
LeavesStandard output ended = Unit {0}

-- no file is written: no result goes to one, or the end comes before. Memory may run out while one is written.
abbrev pub LeavesNamed : Option OutputName → Ended → Type 0
LeavesNamed (Some (File file)) Memory = ⊥
LeavesNamed (Some (File file)) ended = IsBeforeWriting ended
LeavesNamed output ended = Unit {0}

-- all but the file of this name hold what they held
abbrev pub KeepsOthers : List ℕ → Option Named → Option Named → Type 0
KeepsOthers name before now = (now ≡ before) ⊎ ((bytes : List ℕ) × Holds before now name bytes)

-- no file changed, but the output where it was written, or its write failed
abbrev pub KeepsFiles : Option OutputName → Ended → Option Named → Option Named → Type 0
KeepsFiles (Some (File name)) ends.Ok before now = KeepsOthers name before now
KeepsFiles (Some (File name)) (CannotWrite other) before now = KeepsOthers name before now
KeepsFiles output ended before now = now ≡ before

-- what a run leaves of files: none changed but the output, no count fell, and no failed write was counted but one that is told
pub record LeavesFilesBut (output : Option OutputName) (ended : Ended) (contents_before contents_now : Option Named)
    (reads_before reads_now writes_before writes_now : ℕ) : Type 0 where
  pub contents : KeepsFiles output ended contents_before contents_now
  pub reads : reads_before ≤ reads_now
  pub writes : writes_before ≤ writes_now
  pub counted : (writes_now ≡ writes_before) ⊎ IsFileUnwritten output ended

-- What is written.

-- how a result is written whose bytes are these
abbrev pub Delivers : OutputName → List ℕ → Outputs → Outputs → Ended → Type 0
Delivers output bytes before now ends.Ok = IsPut output bytes before now
Delivers output bytes before now (CannotWrite name) = (name ≡ told_name output) × IsPartlyPut output bytes before now
Delivers output bytes before now Memory = now ≡ before
Delivers output bytes before now ended = ⊥

-- a command has a result, and this holds of where it goes and of its bytes
abbrev pub ForResult : Command → List (List ℕ) → (OutputName → List ℕ → Type 0) → Type 0
ForResult command texts P = (bytes : List ℕ) × IsResult command texts bytes × IsSomeAnd (output_of command) (λ output. P output bytes)

-- What outputs have after a command whose inputs are these texts. With `Ok` its result is where it goes. Where a write failed, a front of
-- it is there at most. Where memory ran out nothing changed; but of a stream, which is told while it is walked, a front may be written. After any
-- other end nothing changed.
abbrev pub IsWritten : Command → List (List ℕ) → Outputs → Outputs → Ended → Type 0
IsWritten command texts before now ends.Ok = ForResult command texts (λ output bytes. IsPut output bytes before now)
IsWritten command texts before now (CannotWrite name) = ForResult command texts (λ output bytes. IsPartlyPut output bytes before now)
IsWritten command texts before now Memory =
    (now ≡ before)
    ⊎ ((is_analysis command ≡ true) × ForResult command texts (λ output bytes. IsPartlyPut output bytes before now))
IsWritten command texts before now ended = now ≡ before

-- of a command whose inputs give this
abbrev pub IsWrittenOf : Command → Result (List (List ℕ)) Ended → Outputs → Outputs → Ended → Type 0
IsWrittenOf command (Ok texts) before now ended = IsWritten command texts before now ended
IsWrittenOf command (Err refusal) before now ended = now ≡ before

-- where words are a command that runs no program, this was written
abbrev pub IsShown : List (List ℕ) → Named → List ℕ → Outputs → Outputs → Ended → Type 0
IsShown words files stdin before now ended =
    (command : Command) → IsReadAs words command → runs_program command ≡ false → IsWrittenOf command (texts_read files stdin 0 (inputs_of command)) before now ended
