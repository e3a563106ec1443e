-- Says how the code reads: the words are read from the left, one turn after the other.
use Rattle.std.specs.Prelude.{◌≡◌, ℕ, ◌+◌, Bool, true, false, not, ◌&&◌, ◌||◌, ◌==◌, List, [], ◌∷◌, ◌++◌, length, drop, codes, Option, Some, None, Result, Ok, Err, if◌then◌else◌}
use Rattle.ir_base.specs.Name.{is_name}
use Rattle.command_line.specs.declared.command.UsageKind.{UsageKind}
use Rattle.command_line.specs.declared.command.UsageKind.TheVariants.{NoTool, UnknownOption, MissingValue, BadNumber, Repeated, TooManyFiles, NoFile}
use Rattle.command_line.specs.declared.command.OutputName.TheVariants.{Standard}
use Rattle.command_line.specs.declared.command.Command.{Command}
use Rattle.command_line.specs.declared.command.Command.TheVariants as commands
use Rattle.command_line.specs.declared.command.WordsFault.{WordsFault}
use Rattle.command_line.specs.declared.command.WordsFault.TheVariants as faults
use Rattle.command_line.specs.declared.given.GivenWords.{GivenWords}
use Rattle.command_line.specs.declared.tool.Tool.{Tool}
use Rattle.command_line.specs.declared.tool.Tool.TheVariants.{LlvmAs, LlvmDis, LlvmLink, LlvmExtract, Lli, LlvmBcanalyzer}
use Rattle.command_line.specs.declared.options.PlainOption.{PlainOption}
use Rattle.command_line.specs.declared.options.PlainOption.TheVariants as flags
use Rattle.command_line.specs.declared.options.Setting.{Setting}
use Rattle.command_line.specs.declared.options.Setting.TheVariants as settings
use Rattle.command_line.specs.Tools.{tool_of, takes_one, needs_file}
use Rattle.command_line.specs.Options as options
use Rattle.command_line.specs.Options.{SeenWord, word_spelling, is_dash}
use Rattle.command_line.specs.Numbers.{is_number, decimal}
use Rattle.command_line.specs.Outputs.{output_name, output_from, default_name}
use Rattle.command_line.specs.Roles.{Role, role, is_empty, is_marked, is_program, others, has_flag, has_dash}
use Rattle.command_line.specs.Faults.{is_unknown, lacks_value, has_bad_number, is_repeated, is_surplus}
use Rattle.command_line.specs.Commands.{input_from, arguments_from, steps_from, given_output, given_steps, given_selection, command_of}

-- a kind of fault, and the number of the word
abbrev pub Wrong : Type 0
Wrong = UsageKind × ℕ

-- a refusal is the one that is read, or want of memory
abbrev pub Fails : {A : Type 0} → WordsFault → Result A Wrong → Type 0
Fails (faults.Usage kind k) reading = reading ≡ Err (kind, k)
Fails faults.Memory reading = Unit {0}

-- a call answers what is read
abbrev pub Answers : {A : Type 0} → Result A WordsFault → Result A Wrong → Type 0
Answers (Ok value) reading = reading ≡ Ok value
Answers (Err fault) reading = Fails fault reading

-- a call that leaves `now` leaves what is read
abbrev pub Gives : {A : Type 0} → Result (Unit {0}) WordsFault → A → Result A Wrong → Type 0
Gives (Ok u) now reading = reading ≡ Ok now
Gives (Err fault) now reading = Fails fault reading

-- a call that takes so many words and leaves `now` does what is read
abbrev pub Takes : Result ℕ WordsFault → GivenWords → Result (GivenWords × ℕ) Wrong → Type 0
Takes (Ok count) now reading = reading ≡ Ok (now, count)
Takes (Err fault) now reading = Fails fault reading

-- What has been given so far.

-- no word was read behind the tool's
abbrev pub nothing_given : Tool → GivenWords
nothing_given tool = record {
  tool = tool;
  others = [];
  output = None;
  max_steps = None;
  text = false;
  selection = record { functions = []; variables = []; aliases = []; delete = false; recursive = false };
  dump = false;
  marked = false;
  dash = false;
}

-- what words of these roles give
abbrev pub given_by : Tool → List Role → GivenWords
given_by tool all = record {
  tool = tool;
  others = others all;
  output = given_output all;
  max_steps = given_steps all;
  text = has_flag flags.Text all;
  selection = given_selection all;
  dump = has_flag flags.Dump all;
  marked = is_marked all;
  dash = has_dash all;
}

-- the command of the tool, of what was given
abbrev pub command_by : Tool → GivenWords → Command
command_by LlvmAs given = commands.Assemble (input_from given.others) (output_from (default_name (input_from given.others) (codes ".ll") (codes ".bc")) given.output)
command_by LlvmDis given = commands.Disassemble (input_from given.others) (output_from (default_name (input_from given.others) (codes ".bc") (codes ".ll")) given.output)
command_by LlvmLink given = commands.Link given.others (output_from Standard given.output) given.text
command_by LlvmExtract given = commands.Extract (input_from given.others) (output_from Standard given.output) given.text given.selection
command_by Lli given = commands.Lli (input_from given.others) (steps_from given.max_steps) (arguments_from given.others)
command_by LlvmBcanalyzer given = commands.Analyze (input_from given.others) given.dump

-- the command of what was given
abbrev pub command_from : GivenWords → Command
command_from given = command_by given.tool given

-- What one turn gives.

-- a flag is given
abbrev pub with_flag : GivenWords → PlainOption → GivenWords
with_flag given flags.Text = record given { text = true }
with_flag given flags.Delete = record given { selection = record given.selection { delete = true } }
with_flag given flags.Recursive = record given { selection = record given.selection { recursive = true } }
with_flag given flags.Dump = record given { dump = true }

-- there is one
abbrev pub is_some : {A : Type 0} → Option A → Bool
is_some None = false
is_some (Some x) = true

-- an output is given, once
abbrev pub with_output : GivenWords → List ℕ → ℕ → Result GivenWords Wrong
with_output given value at = if is_some given.output then Err (Repeated, at) else Ok (record given { output = Some (output_name value) })

-- a bound on steps is given, once, and is a number
abbrev pub with_steps : GivenWords → List ℕ → ℕ → ℕ → Result GivenWords Wrong
with_steps given value at value_at =
    if not (is_number value) && value_at == at then Err (BadNumber, at)
    else if is_some given.max_steps then Err (Repeated, at)
    else if not (is_number value) then Err (BadNumber, value_at)
    else Ok (record given { max_steps = Some (decimal value) })

-- the value is a name
abbrev pub name_read : List ℕ → ℕ → Result (List ℕ) Wrong
name_read value at = if is_name value then Ok value else Err (MissingValue, at)

-- a setting is given its value
abbrev pub with_setting : GivenWords → Setting → List ℕ → ℕ → ℕ → Result GivenWords Wrong
with_setting given settings.Output value at value_at = with_output given value at
with_setting given settings.MaxSteps value at value_at = with_steps given value at value_at
with_setting given settings.Function value at value_at =
    if is_name value then Ok (record given { selection = record given.selection { functions = given.selection.functions ++ value ∷ [] } })
    else Err (MissingValue, at)
with_setting given settings.Variable value at value_at =
    if is_name value then Ok (record given { selection = record given.selection { variables = given.selection.variables ++ value ∷ [] } })
    else Err (MissingValue, at)
with_setting given settings.Alias value at value_at =
    if is_name value then Ok (record given { selection = record given.selection { aliases = given.selection.aliases ++ value ∷ [] } })
    else Err (MissingValue, at)

-- an input is given
abbrev pub with_input : GivenWords → List ℕ → ℕ → Result GivenWords Wrong
with_input given word at =
    if is_dash word && given.dash then Err (Repeated, at)
    else if takes_one given.tool && not (is_empty given.others) then Err (TooManyFiles, at)
    else Ok (record given { others = given.others ++ word ∷ []; dash = is_dash word || given.dash })

-- so many words are taken, unless something is wrong
abbrev pub taking : ℕ → Result GivenWords Wrong → Result (GivenWords × ℕ) Wrong
taking count (Ok given) = Ok (given, count)
taking count (Err wrong) = Err wrong

-- a turn over a word by what it is spelled as
abbrev pub spelled_turn : GivenWords → SeenWord → List ℕ → Option (List ℕ) → ℕ → Result (GivenWords × ℕ) Wrong
spelled_turn given options.Marker word next at = Ok (record given { marked = true }, 1)
spelled_turn given (options.Lone flag) word next at = Ok (with_flag given flag, 1)
spelled_turn given (options.Full setting value) word next at = taking 1 (with_setting given setting value at at)
spelled_turn given (options.Open setting) word None at = Err (MissingValue, at)
spelled_turn given (options.Open setting) word (Some value) at = taking 2 (with_setting given setting value at (at + 1))
spelled_turn given options.Unknown word next at = Err (UnknownOption, at)
spelled_turn given options.Input word next at = taking 1 (with_input given word at)

-- a turn over a word by what stands before it
abbrev pub turn_by : GivenWords → Bool → Bool → SeenWord → List ℕ → Option (List ℕ) → ℕ → Result (GivenWords × ℕ) Wrong
turn_by given true marked spelling word next at = Ok (record given { others = given.others ++ word ∷ [] }, 1)
turn_by given false true spelling word next at = taking 1 (with_input given word at)
turn_by given false false spelling word next at = spelled_turn given spelling word next at

-- one word, or an option and its value, and how many words that were
unfoldable pub turn : GivenWords → List ℕ → Option (List ℕ) → ℕ → Result (GivenWords × ℕ) Wrong
turn given word next at = turn_by given (is_program given.tool (is_empty given.others)) given.marked (word_spelling given.tool word) word next at

-- The first fault of a word, and of all words.

-- the first kind of fault that a word has
abbrev pub first_kind : Tool → List Role → Role → List (List ℕ) → Option UsageKind
first_kind tool before role behind =
    if is_unknown role then Some UnknownOption
    else if lacks_value role behind then Some MissingValue
    else if has_bad_number role then Some BadNumber
    else if is_repeated before role then Some Repeated
    else if is_surplus tool before role then Some TooManyFiles
    else None

-- the fault of this word, or else what the others come to
abbrev pub scan_by : Option UsageKind → ℕ → Result (List Role) Wrong → Result (List Role) Wrong
scan_by None k rest = rest
scan_by (Some kind) k rest = Err (kind, k)

-- the roles, or the first fault
unfoldable pub scan : Tool → List Role → List (List ℕ) → Result (List Role) Wrong
scan tool before [] = if needs_file tool && is_empty (others before) then Err (NoFile, 1 + length before) else Ok before
scan tool before (word ∷ words) = scan_by (first_kind tool before (role tool before word) words) (1 + length before) (scan tool (role tool before word ∷ before) words)

-- what the words give is what their roles give
abbrev pub ReadsGiven : Tool → Result GivenWords WordsFault → Result (List Role) Wrong → Type 0
ReadsGiven tool (Ok given) reading = (all : List Role) × (reading ≡ Ok all) × (given ≡ given_by tool all)
ReadsGiven tool (Err fault) reading = Fails fault reading

-- the command, unless something is wrong
abbrev pub command_read : Tool → Result (List Role) Wrong → Result Command Wrong
command_read tool (Ok all) = Ok (command_of tool all)
command_read tool (Err wrong) = Err wrong

-- the command of a tool over words, or what is wrong
abbrev pub reading_by : Option Tool → List (List ℕ) → Result Command Wrong
reading_by None words = Err (NoTool, 0)
reading_by (Some tool) words = command_read tool (scan tool [] words)

-- the command of the whole line, or the first fault
abbrev pub reading : List (List ℕ) → Result Command Wrong
reading words = reading_by (tool_of words) (drop 1 words)
