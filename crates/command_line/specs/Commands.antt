-- For `read_words`: the command that the words are read as.
use Rattle.std.specs.Prelude.{◌≡◌, ◌⊎◌, ℕ, List, [], ◌∷◌, drop, codes, Option, Some, None, Result, Err}
use Rattle.command_line.specs.declared.command.OutputName.{OutputName}
use Rattle.command_line.specs.declared.command.OutputName.TheVariants.{Standard}
use Rattle.command_line.specs.declared.command.SelectionWords.{SelectionWords}
use Rattle.command_line.specs.declared.command.Command.{Command}
use Rattle.command_line.specs.declared.command.Command.TheVariants as commands
use Rattle.command_line.specs.declared.command.UsageKind.{UsageKind}
use Rattle.command_line.specs.declared.command.WordsFault.{WordsFault}
use Rattle.command_line.specs.declared.command.WordsFault.TheVariants as faults
use Rattle.command_line.specs.declared.tool.Tool.{Tool}
use Rattle.command_line.specs.declared.tool.Tool.TheVariants.{LlvmAs, LlvmDis, LlvmLink, LlvmExtract, Lli, LlvmBcanalyzer}
use Rattle.command_line.specs.declared.given.TheConstants.{DEFAULT_STEPS}
use Rattle.command_line.specs.declared.options.PlainOption.TheVariants as flags
use Rattle.command_line.specs.declared.options.Setting.TheVariants as settings
use Rattle.command_line.specs.Tools.{tool_of}
use Rattle.command_line.specs.Numbers.{decimal}
use Rattle.command_line.specs.Outputs.{first_output, output_from, default_name}
use Rattle.command_line.specs.Roles.{Role, roles, others, values, has_flag}
use Rattle.command_line.specs.Faults.{Fault, IsFirstFault}

-- the first file, or standard input
abbrev pub input_from : List (List ℕ) → List ℕ
input_from [] = codes "-"
input_from (word ∷ words) = word

-- the module's name as written, or `-`, and the words behind it
abbrev pub arguments_from : List (List ℕ) → List (List ℕ)
arguments_from [] = codes "-" ∷ []
arguments_from (word ∷ words) = word ∷ words

-- the number that the first of some values is
abbrev pub first_number : List (List ℕ) → Option ℕ
first_number [] = None
first_number (value ∷ values) = Some (decimal value)

-- the bound on steps, with that where none is given
abbrev pub steps_from : Option ℕ → ℕ
steps_from None = DEFAULT_STEPS
steps_from (Some n) = n

-- What the roles of all words give.

-- the output that is given
abbrev pub given_output : List Role → Option OutputName
given_output all = first_output (values settings.Output all)

-- the bound on steps that is given
abbrev pub given_steps : List Role → Option ℕ
given_steps all = first_number (values settings.MaxSteps all)

-- what is selected of a module
abbrev pub given_selection : List Role → SelectionWords
given_selection all = record {
  functions = values settings.Function all;
  variables = values settings.Variable all;
  aliases = values settings.Alias all;
  delete = has_flag flags.Delete all;
  recursive = has_flag flags.Recursive all;
}

-- the command of a tool over words of these roles
abbrev pub command_of : Tool → List Role → Command
command_of LlvmAs all = commands.Assemble (input_from (others all)) (output_from (default_name (input_from (others all)) (codes ".ll") (codes ".bc")) (given_output all))
command_of LlvmDis all =
    commands.Disassemble (input_from (others all))
    (output_from (default_name (input_from (others all)) (codes ".bc") (codes ".ll")) (given_output all))
command_of LlvmLink all = commands.Link (others all) (output_from Standard (given_output all)) (has_flag flags.Text all)
command_of LlvmExtract all = commands.Extract (input_from (others all)) (output_from Standard (given_output all)) (has_flag flags.Text all) (given_selection all)
command_of Lli all = commands.Lli (input_from (others all)) (steps_from (given_steps all)) (arguments_from (others all))
command_of LlvmBcanalyzer all = commands.Analyze (input_from (others all)) (has_flag flags.Dump all)

-- the command of a tool over words, where there is a tool
abbrev pub command_behind : Option Tool → List (List ℕ) → Option Command
command_behind None words = None
command_behind (Some tool) words = Some (command_of tool (roles tool words))

-- the words have no fault, and are this command
pub record IsReadAs (words : List (List ℕ)) (command : Command) : Type 0 where
  pub fine : (kind : UsageKind) (k : ℕ) → ¬ Fault words kind k
  pub is : command_behind (tool_of words) (drop 1 words) ≡ Some command

-- the words are a command, or have a first fault
abbrev pub IsJudged : List (List ℕ) → Type 0
IsJudged words = ((command : Command) × IsReadAs words command) ⊎ ((kind : UsageKind) × ((k : ℕ) × IsFirstFault words kind k))

-- an answer is the expected one, or want of memory
abbrev pub IsUnlessMemory : Result Command WordsFault → Result Command WordsFault → Type 0
IsUnlessMemory answer expected = (answer ≡ expected) ⊎ (answer ≡ Err faults.Memory)
