-- For `run_tool`: the inputs that words name, and what reading them gives where their content is told.
use Rattle.std.specs.Prelude.{◌≡◌, ℕ, ◌+◌, nat_lt, Bool, true, false, not, List, [], ◌∷◌, length, drop, Option, Some, None, Result, Ok, Err, if◌then◌else◌}
use Rattle.std.specs.Bool.{MatchBool}
use Rattle.std.specs.List.{IsAmong, list_any}
use Rattle.ir_base.specs.Files.{Named}
use Rattle.command_line.specs.declared.command.Command.{Command}
use Rattle.command_line.specs.declared.command.Command.TheVariants.{Assemble, Disassemble, Link, Extract, Lli, Analyze}
use Rattle.command_line.specs.Tools.{tool_of}
use Rattle.command_line.specs.Options.{is_dash}
use Rattle.command_line.specs.Commands.{command_behind}
use Rattle.tool_output.specs.declared.ends.ended.Ended.{Ended}
use Rattle.tool_output.specs.declared.ends.ended.Ended.TheVariants.{CannotRead, InputTooLarge}
use Rattle.tool_cli.specs.declared.inputs.TheConstants.{LARGEST, LARGEST_TOGETHER}

-- the names of a command's inputs, in the order of the words; standard input is `-`
abbrev pub inputs_of : Command → List (List ℕ)
inputs_of (Assemble input output) = input ∷ []
inputs_of (Disassemble input output) = input ∷ []
inputs_of (Link inputs output text) = inputs
inputs_of (Extract input output text selection) = input ∷ []
inputs_of (Lli input max_steps arguments) = input ∷ []
inputs_of (Analyze input dump) = input ∷ []

-- the inputs of the command, where there is one
abbrev pub inputs_behind : Option Command → List (List ℕ)
inputs_behind None = []
inputs_behind (Some command) = inputs_of command

-- the inputs of the command that the words are read as
unfoldable pub inputs_named : List (List ℕ) → List (List ℕ)
inputs_named words = inputs_behind (command_behind (tool_of words) (drop 1 words))

-- the command runs a program
abbrev pub runs_program : Command → Bool
runs_program (Lli input max_steps arguments) = true
runs_program command = false

-- the program that the command runs has standard input for its own: its module comes from a file
abbrev pub hears : Command → Bool
hears (Lli input max_steps arguments) = not (is_dash input)
hears command = false

-- the command, where there is one, runs a program
abbrev pub runs_behind : Option Command → Bool
runs_behind None = false
runs_behind (Some command) = runs_program command

-- the command, where there is one, runs a program that has standard input for its own
abbrev pub hears_behind : Option Command → Bool
hears_behind None = false
hears_behind (Some command) = hears command

-- the command that the words are read as runs a program
unfoldable pub runs : List (List ℕ) → Bool
runs words = runs_behind (command_behind (tool_of words) (drop 1 words))

-- and that program has standard input for its own
unfoldable pub listens : List (List ℕ) → Bool
listens words = hears_behind (command_behind (tool_of words) (drop 1 words))

-- standard input is one of the inputs
abbrev pub has_stdin : List (List ℕ) → Bool
has_stdin names = list_any is_dash names

-- what an input of this name holds: what is left of standard input, or a file
abbrev pub content : Named → List ℕ → List ℕ → Option (List ℕ)
content files stdin name = if is_dash name then Some stdin else files name

-- what is left of standard input behind that input
abbrev pub stdin_after : List ℕ → List ℕ → List ℕ
stdin_after stdin name = if is_dash name then [] else stdin

-- the outside tells that an input of this name holds what these files and these bytes say
abbrev pub Tells : Option Named → Option (List ℕ) → Named → List ℕ → List ℕ → Type 0
Tells contents left files stdin name = MatchBool (is_dash name) (left ≡ Some stdin) (contents ≡ Some files)

-- each of these names is told
abbrev pub TellsAll : List (List ℕ) → Option Named → Option (List ℕ) → Named → List ℕ → Type 0
TellsAll names contents left files stdin = (name : List ℕ) → IsAmong names name → Tells contents left files stdin name

-- the outside tells all that the run of these words depends on: what their inputs hold, and what the program reads that they run
pub record TellsRun (words : List (List ℕ)) (contents : Option Named) (left : Option (List ℕ)) (files : Named) (stdin : List ℕ) : Type 0 where
  pub inputs : TellsAll (inputs_named words) contents left files stdin
  pub heard : listens words ≡ true → left ≡ Some stdin

-- An input is a text of at most 16 MiB,
abbrev pub alone : List ℕ → Option (List ℕ) → Result (List ℕ) Ended
alone name None = Err (CannotRead name)
alone name (Some text) = if nat_lt LARGEST (length text) then Err (InputTooLarge name LARGEST) else Ok text

-- and together with those before it, which have so many bytes, of at most 32 MiB.
abbrev pub together : List ℕ → ℕ → Result (List ℕ) Ended → Result (List ℕ) Ended
together name before (Err ended) = Err ended
together name before (Ok text) = if nat_lt LARGEST_TOGETHER (before + length text) then Err (InputTooLarge name LARGEST_TOGETHER) else Ok text

-- what one input gives
unfoldable pub input_read : Named → List ℕ → ℕ → List ℕ → Result (List ℕ) Ended
input_read files stdin before name = together name before (alone name (content files stdin name))

-- a text before others
abbrev pub with_text : List ℕ → Result (List (List ℕ)) Ended → Result (List (List ℕ)) Ended
with_text text (Ok texts) = Ok (text ∷ texts)
with_text text (Err ended) = Err ended

-- a text that was read, in front of those that are read behind it
abbrev pub read_on : Result (List ℕ) Ended → (List ℕ → Result (List (List ℕ)) Ended) → Result (List (List ℕ)) Ended
read_on (Ok text) others = with_text text (others text)
read_on (Err ended) others = Err ended

-- what the inputs of these names give, one behind the other: all their texts, or the first refusal
abbrev pub texts_read : Named → List ℕ → ℕ → List (List ℕ) → Result (List (List ℕ)) Ended
texts_read files stdin before [] = Ok []
texts_read files stdin before (name ∷ names) =
    read_on (input_read files stdin before name) (λ text. texts_read files (stdin_after stdin name) (before + length text) names)
