-- For `read_words`: what may be wrong with the words, and which fault is the first.
use Rattle.std.specs.Prelude.{◌≡◌, ◌⊎◌, ℕ, ◌+◌, ◌<◌, ◌≤◌, Bool, true, false, not, ◌&&◌, IsTrue, List, [], ◌∷◌, ◌++◌, length, drop, Option, Some, None}
use Rattle.ir_base.specs.Name.{is_name}
use Rattle.command_line.specs.declared.command.UsageKind.{UsageKind}
use Rattle.command_line.specs.declared.command.UsageKind.TheVariants.{NoTool, UnknownOption, MissingValue, BadNumber, Repeated, TooManyFiles, NoFile}
use Rattle.command_line.specs.declared.tool.Tool.{Tool}
use Rattle.command_line.specs.declared.options.Setting.{Setting}
use Rattle.command_line.specs.declared.options.Setting.TheVariants as settings
use Rattle.command_line.specs.Kinds.{rank}
use Rattle.command_line.specs.Tools.{tool_of, takes_one, needs_file}
use Rattle.command_line.specs.Options.{is_dash}
use Rattle.command_line.specs.Numbers.{is_number}
use Rattle.command_line.specs.Roles.{Role, Unknown, Full, Open, Value, Input, role, roles, others, values, is_empty, has_dash}

-- One test a kind, on the role of a word, the roles before it, and the words behind it.

-- the word is no option of the tool
abbrev pub is_unknown : Role → Bool
is_unknown Unknown = true
is_unknown role = false

-- the option names a symbol, and the value is no name
abbrev pub is_no_name : Setting → List ℕ → Bool
is_no_name settings.Function value = not (is_name value)
is_no_name settings.Variable value = not (is_name value)
is_no_name settings.Alias value = not (is_name value)
is_no_name setting value = false

-- told at the option, also where its value is the next word
abbrev pub lacks_value : Role → List (List ℕ) → Bool
lacks_value (Open setting) [] = true
lacks_value (Open setting) (value ∷ behind) = is_no_name setting value
lacks_value (Full setting value) behind = is_no_name setting value
lacks_value role behind = false

-- told at the word that holds it
abbrev pub has_bad_number : Role → Bool
has_bad_number (Full settings.MaxSteps value) = not (is_number value)
has_bad_number (Value settings.MaxSteps value) = not (is_number value)
has_bad_number role = false

-- an option that may be given once was given before
abbrev pub is_twice : Setting → List Role → Bool
is_twice settings.Output before = not (is_empty (values settings.Output before))
is_twice settings.MaxSteps before = not (is_empty (values settings.MaxSteps before))
is_twice setting before = false

-- the word gives again what may be given once
abbrev pub is_repeated : List Role → Role → Bool
is_repeated before (Full setting value) = is_twice setting before
is_repeated before (Open setting) = is_twice setting before
is_repeated before (Input word) = is_dash word && has_dash before
is_repeated before role = false

-- the tool takes one file and has one already
abbrev pub is_surplus : Tool → List Role → Role → Bool
is_surplus tool before (Input word) = takes_one tool && not (is_empty (others before))
is_surplus tool before role = false

-- a word of this role is wrong in this way, with these roles before it and these words behind it
abbrev pub is_wrong : Tool → List Role → Role → List (List ℕ) → UsageKind → Bool
is_wrong tool before role behind NoTool = false
is_wrong tool before role behind UnknownOption = is_unknown role
is_wrong tool before role behind MissingValue = lacks_value role behind
is_wrong tool before role behind BadNumber = has_bad_number role
is_wrong tool before role behind Repeated = is_repeated before role
is_wrong tool before role behind TooManyFiles = is_surplus tool before role
is_wrong tool before role behind NoFile = false

-- one of the words behind the tool's is wrong
pub record WordFault (tool : Tool) (words : List (List ℕ)) (kind : UsageKind) (k : ℕ) : Type 0 where
  pub front : List (List ℕ)
  pub word : List ℕ
  pub behind : List (List ℕ)
  pub whole : words ≡ front ++ word ∷ behind
  pub place : k ≡ 1 + length front
  pub wrong : IsTrue (is_wrong tool (roles tool front) (role tool (roles tool front) word) behind kind)

-- there is no file, which is told behind the last word
pub record EndFault (tool : Tool) (words : List (List ℕ)) (kind : UsageKind) (k : ℕ) : Type 0 where
  pub none : kind ≡ NoFile
  pub place : k ≡ 1 + length words
  pub wrong : IsTrue (needs_file tool && is_empty (others (roles tool words)))

-- by the tool that the first word names and the words behind it: they are wrong in this way at word k
abbrev pub FaultBehind : Option Tool → List (List ℕ) → UsageKind → ℕ → Type 0
FaultBehind None words kind k = (kind ≡ NoTool) × (k ≡ 0)
FaultBehind (Some tool) words kind k = WordFault tool words kind k ⊎ EndFault tool words kind k

-- the words of a command line are wrong in this way at word k
abbrev pub Fault : List (List ℕ) → UsageKind → ℕ → Type 0
Fault words kind k = FaultBehind (tool_of words) (drop 1 words) kind k

-- the first from the left, and of one word the first in the order of kinds
pub record IsFirstFault (words : List (List ℕ)) (kind : UsageKind) (k : ℕ) : Type 0 where
  pub is : Fault words kind k
  pub first : (other : UsageKind) (at : ℕ) → Fault words other at → (k < at) ⊎ ((k ≡ at) × (rank kind ≤ rank other))
