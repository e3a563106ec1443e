-- For `read_words`, `tool_of` and `line_name`: the tools, the words that name them, and the options that each has.
use Rattle.std.specs.Prelude.{◌∷◌, [], ℕ, Bool, true, false, List, codes, bytes_eq, Option, Some, None, if◌then◌else◌}
use Rattle.std.specs.List.{list_any}
use Rattle.command_line.specs.declared.tool.Tool.{Tool}
use Rattle.command_line.specs.declared.tool.Tool.TheVariants.{LlvmAs, LlvmDis, LlvmLink, LlvmExtract, Lli, LlvmBcanalyzer}
use Rattle.command_line.specs.declared.options.PlainOption.{PlainOption}
use Rattle.command_line.specs.declared.options.PlainOption.TheVariants as flags
use Rattle.command_line.specs.declared.options.Setting.{Setting}
use Rattle.command_line.specs.declared.options.Setting.TheVariants as settings

-- what the row of this name has
abbrev pub row_of : {A : Type 0} → List (List ℕ × A) → List ℕ → Option A
row_of [] name = None
row_of (row ∷ rows) name = if bytes_eq row.0 name then Some row.1 else row_of rows name

-- the tool of a name
abbrev pub tool_named : List ℕ → Option Tool
tool_named = row_of (
    (codes "llvm-as", LlvmAs) ∷
    (codes "llvm-dis", LlvmDis) ∷
    (codes "llvm-link", LlvmLink) ∷
    (codes "llvm-extract", LlvmExtract) ∷
    (codes "lli", Lli) ∷
    (codes "llvm-bcanalyzer", LlvmBcanalyzer) ∷
    [])

-- the name of a tool
abbrev pub tool_name : Tool → List ℕ
tool_name LlvmAs = codes "llvm-as"
tool_name LlvmDis = codes "llvm-dis"
tool_name LlvmLink = codes "llvm-link"
tool_name LlvmExtract = codes "llvm-extract"
tool_name Lli = codes "lli"
tool_name LlvmBcanalyzer = codes "llvm-bcanalyzer"

-- the tool that the first word of a command line names
abbrev pub tool_of : List (List ℕ) → Option Tool
tool_of [] = None
tool_of (word ∷ words) = tool_named word

-- the name of a tool, or of the program where there is no tool
abbrev pub name_or_program : Option Tool → List ℕ
name_or_program None = codes "ir-tools"
name_or_program (Some tool) = tool_name tool

-- what its error line begins with
abbrev pub line_name : List (List ℕ) → List ℕ
line_name words = name_or_program (tool_of words)

-- the options of each tool
abbrev pub flags_of : Tool → List PlainOption
flags_of LlvmAs = []
flags_of LlvmDis = []
flags_of LlvmLink = flags.Text ∷ []
flags_of LlvmExtract = flags.Text ∷ flags.Delete ∷ flags.Recursive ∷ []
flags_of Lli = []
flags_of LlvmBcanalyzer = flags.Dump ∷ []

-- the settings of a tool
abbrev pub settings_of : Tool → List Setting
settings_of LlvmAs = settings.Output ∷ []
settings_of LlvmDis = settings.Output ∷ []
settings_of LlvmLink = settings.Output ∷ []
settings_of LlvmExtract = settings.Output ∷ settings.Function ∷ settings.Variable ∷ settings.Alias ∷ []
settings_of Lli = settings.MaxSteps ∷ []
settings_of LlvmBcanalyzer = []

-- the two are one flag
abbrev pub same_flag : PlainOption → PlainOption → Bool
same_flag flags.Text flags.Text = true
same_flag flags.Delete flags.Delete = true
same_flag flags.Recursive flags.Recursive = true
same_flag flags.Dump flags.Dump = true
same_flag flag other = false

-- the two are one setting
abbrev pub same_setting : Setting → Setting → Bool
same_setting settings.Output settings.Output = true
same_setting settings.Function settings.Function = true
same_setting settings.Variable settings.Variable = true
same_setting settings.Alias settings.Alias = true
same_setting settings.MaxSteps settings.MaxSteps = true
same_setting setting other = false

-- the tool has the flag
abbrev pub has : Tool → PlainOption → Bool
has tool flag = list_any (same_flag flag) (flags_of tool)

-- the tool has the setting
abbrev pub takes : Tool → Setting → Bool
takes tool setting = list_any (same_setting setting) (settings_of tool)

-- at most one input; `lli` has one, since the words behind it are the program's
abbrev pub takes_one : Tool → Bool
takes_one LlvmLink = false
takes_one tool = true

-- at least one input
abbrev pub needs_file : Tool → Bool
needs_file LlvmLink = true
needs_file tool = false
