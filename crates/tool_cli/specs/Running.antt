-- For `run_tool`: what it comes to where a program is run.
use Rattle.std.specs.Prelude.{◌≡◌, ◌⊎◌, ◌≤◌, ℕ, List, [], ◌∷◌, codes, Some, Result, Ok, Err, if◌then◌else◌}
use Rattle.std.specs.Bool.{MatchBool}
use Rattle.ir_base.specs.Files.{Named}
use Rattle.ir_base.specs.Outside.{Added}
use Rattle.command_line.specs.declared.command.Command.{Command}
use Rattle.command_line.specs.declared.command.Command.TheVariants.{Lli}
use Rattle.command_line.specs.declared.number.TheConstants.{LARGEST_NUMBER}
use Rattle.command_line.specs.Commands.{IsReadAs}
use Rattle.command_line.specs.Options.{is_dash}
use Rattle.module_arena.specs.Module.{Module}
use Rattle.name_rules.specs.Spelled.{spelled_global}
use Rattle.run_rules.specs.Played.Played.{Plays, Program, outcome_of}
use Rattle.run_rules.specs.Clauses.{Outside, outside}
use Rattle.run_rules.specs.Side.{Side}
use Rattle.run_rules.specs.Step.{Outcome}
use Rattle.run_rules.specs.declared.end.End.{End}
use Rattle.run_rules.specs.declared.end.End.TheVariants as stops
use Rattle.run_rules.specs.declared.fault.RunFault.{RunFault}
use Rattle.run_rules.specs.declared.fault.RunFault.TheVariants as faults
use Rattle.tool_output.specs.declared.ends.ended.Ended.{Ended}
use Rattle.tool_output.specs.declared.ends.ended.Ended.TheVariants.{Exit, StepsUsed, Undefined, StackLimit, MemoryLimit, Unresolved, NoMain, CannotRead, CannotWrite, Memory}
use Rattle.tool_output.specs.declared.ends.ended.Ended.TheVariants as ends
use Rattle.tool_cli.specs.Causes.{IsStopped}
use Rattle.tool_cli.specs.Inputs.{input_read, TellsRun}
use Rattle.tool_cli.specs.Judged.{IsPartRefused}
use Rattle.tool_cli.specs.Made.{IsPart, RunsLike}
use Rattle.tool_cli.specs.World.{World, outside_of}

-- a run makes no more steps than this
abbrev pub StepsFit : Command → Type 0
StepsFit (Lli input max_steps arguments) = max_steps ≤ LARGEST_NUMBER
StepsFit command = Unit {0}

-- the program of a module, which has these words and may make so many steps
abbrev pub program_of : ℕ → List (List ℕ) → Module → Program
program_of bound words m = record { code = m; words = words; bound = bound }

-- what a program reads whose module is the input of this name: standard input, or nothing where the module itself came from there
abbrev pub program_input : List ℕ → List ℕ → List ℕ
program_input name stdin = if is_dash name then [] else stdin

-- How a program ends, told. A name is spelled as in canonical text.
abbrev pub end_told : End → Ended
end_told (stops.Exit status) = Exit status
end_told (stops.Undefined kind) = Undefined kind
end_told stops.StepsUsed = StepsUsed
end_told stops.StackLimit = StackLimit
end_told stops.MemoryLimit = MemoryLimit
end_told (stops.Unresolved name) = Unresolved (spelled_global name)
end_told stops.NoMain = NoMain

-- the end of a program that stands for this module, over these bytes of standard input
abbrev pub end_of : List ℕ → ℕ → List (List ℕ) → List ℕ → Module → Ended
end_of name bound words stdin m = end_told (outcome_of (program_of bound words m) (program_input name stdin)).end

-- the answer of a run, told
abbrev pub AnswerTold : Result End RunFault → Ended → Type 0
AnswerTold (Ok end) ended = ended ≡ end_told end
AnswerTold (Err faults.ReadFault) ended = ended ≡ CannotRead (codes "-")
AnswerTold (Err faults.WriteFault) ended = ended ≡ CannotWrite (codes "-")
AnswerTold (Err faults.Memory) ended = ended ≡ Memory

-- a program was run to this end
abbrev pub IsRunTo : Program → Outside → Outside → Ended → Type 0
IsRunTo p before after ended = (answer : Result End RunFault) × AnswerTold answer ended × Plays p answer before after

-- the same outside, with no input
abbrev pub without_input : Outside → Outside
without_input o = outside (Some []) 0 o.taken o.write_faults

-- the same over standard input, or over no input where the input of this name came from there
abbrev pub IsRunFrom : List ℕ → Program → Outside → Outside → Ended → Type 0
IsRunFrom name p before after ended = MatchBool (is_dash name) (IsRunTo p (without_input before) (without_input after) ended) (IsRunTo p before after ended)

-- the input of this name stands for a module, whose program was run with these words, for at most so many steps, to this end
pub record RunsInput (name : List ℕ) (bound : ℕ) (words : List (List ℕ)) (bytes : List ℕ) (before after : Outside) (ended : Ended) : Type 0 where
  pub meant : Module
  pub is_part : IsPart bytes meant
  pub runs : IsRunFrom name (program_of bound words meant) before after ended

-- What running the input of this name comes to: it is refused, or memory ran out before its program began, and nothing is read or put; or its program
-- was run.
abbrev pub IsRan : List ℕ → ℕ → List (List ℕ) → List ℕ → Outside → Outside → Ended → Type 0
IsRan name bound words bytes before after ended =
    ((IsPartRefused name bytes ended ⊎ (ended ≡ Memory)) × (after ≡ before)) ⊎ RunsInput name bound words bytes before after ended

-- the same of a command whose inputs are these texts; of one that runs no program nothing
abbrev pub IsRanBy : Command → List (List ℕ) → Outside → Outside → Ended → Type 0
IsRanBy (Lli name bound words) (bytes ∷ []) before after ended = IsRan name bound words bytes before after ended
IsRanBy (Lli name bound words) texts before after ended = ⊥
IsRanBy command texts before after ended = Unit {0}

-- An end before the program has begun whose module is the input of this name. Want of memory, which may also come later, is none.
abbrev pub IsBeforeRun : List ℕ → Ended → Type 0
IsBeforeRun name ends.Ok = ⊥
IsBeforeRun name (Exit status) = ⊥
IsBeforeRun name StepsUsed = ⊥
IsBeforeRun name (Undefined kind) = ⊥
IsBeforeRun name StackLimit = ⊥
IsBeforeRun name MemoryLimit = ⊥
IsBeforeRun name (Unresolved symbol) = ⊥
IsBeforeRun name NoMain = ⊥
IsBeforeRun name (CannotRead other) = other ≡ name
IsBeforeRun name (CannotWrite other) = ⊥
IsBeforeRun name Memory = ⊥
IsBeforeRun name ended = Unit {0}

-- the command runs a program, and this end comes before that has begun
abbrev pub IsUnbegun : Command → Ended → Type 0
IsUnbegun (Lli name bound words) ended = IsBeforeRun name ended
IsUnbegun command ended = ⊥

-- nothing is put, and nothing is read but the module itself where the input of this name is standard input
abbrev pub IsQuiet : List ℕ → Outside → Outside → Type 0
IsQuiet name before after = MatchBool (is_dash name) (without_input after ≡ without_input before) (after ≡ before)

-- the input of this name was not read, or memory ran out
abbrev pub IsUnreadOf : List ℕ → Ended → Type 0
IsUnreadOf name ended = (ended ≡ CannotRead name) ⊎ (ended ≡ Memory)

-- Where the input of this name gives bytes: it is not run, and all is quiet; or its program was run. Where it is refused, that is told, and all is quiet.
abbrev pub IsPlayedOf : List ℕ → ℕ → List (List ℕ) → Result (List ℕ) Ended → Outside → Outside → Ended → Type 0
IsPlayedOf name bound arguments (Ok bytes) before after ended =
    ((IsPartRefused name bytes ended ⊎ IsUnreadOf name ended) × IsQuiet name before after) ⊎ RunsInput name bound arguments bytes before after ended
IsPlayedOf name bound arguments (Err refusal) before after ended = ((ended ≡ refusal) ⊎ IsUnreadOf name ended) × IsQuiet name before after

-- where words run an input, that comes of it which it gives
abbrev pub IsPlayed : List (List ℕ) → Named → List ℕ → Outside → Outside → Ended → Type 0
IsPlayed words files stdin before after ended =
    (name : List ℕ) (bound : ℕ) (arguments : List (List ℕ)) → IsReadAs words (Lli name bound arguments)
    → IsPlayedOf name bound arguments (input_read files stdin 0 name) before after ended

-- the words run the input of this name, which holds these bytes
pub record RunsBytes (words : List (List ℕ)) (files : Named) (stdin name : List ℕ) (bound : ℕ) (arguments : List (List ℕ)) (bytes : List ℕ) : Type 0 where
  pub read : IsReadAs words (Lli name bound arguments)
  pub given : input_read files stdin 0 name ≡ Ok bytes

-- this end of what runs is told, and all of its output is put
abbrev pub ComesOut : Outcome → Outside → Outside → Ended → Type 0
ComesOut outcome before after ended = (ended ≡ end_told outcome.end) × Added before.taken after.taken outcome.output

-- Where words run an input that stands for a module which runs as parts do: the end is theirs, side by side, over these words, the bytes of standard input
-- and the steps, and all of their output is put. A module runs as itself, and what was linked as its parts (`RunsAsParts`). Unless the run stopped for what
-- is outside of it.
abbrev pub RunsModule : List (List ℕ) → Named → List ℕ → Outside → Outside → Ended → Type 0 → Type 0
RunsModule words files stdin before after ended stopped =
    (name : List ℕ) (bound : ℕ) (arguments : List (List ℕ)) (bytes : List ℕ) → RunsBytes words files stdin name bound arguments bytes
    → (parts : List Module) → RunsLike bytes parts
    → ComesOut (Side parts arguments (program_input name stdin) bound) before after ended ⊎ stopped

-- The same of a run of these words, whatever it is that the outside tells of its inputs.
abbrev pub InputRunsAsParts : {I O F : Type 0} → List (List ℕ) → World I O F → World I O F → Ended → Type 0
InputRunsAsParts words before now ended =
    (held : Named) (stdin : List ℕ) → TellsRun words before.contents before.left held stdin
    → RunsModule words held stdin (outside_of before) (outside_of now) ended (IsStopped words before now ended)
