-- For `read_words`: what each word behind the tool's is, given what the words before it are.
use Rattle.std.specs.Prelude.{ℕ, Bool, true, false, not, ◌||◌, List, [], ◌∷◌, ◌++◌, Option, Some, None, if◌then◌else◌}
use Rattle.command_line.specs.declared.tool.Tool.{Tool}
use Rattle.command_line.specs.declared.tool.Tool.TheVariants as tools
use Rattle.command_line.specs.declared.options.PlainOption.{PlainOption}
use Rattle.command_line.specs.declared.options.Setting.{Setting}
use Rattle.command_line.specs.Tools.{same_flag, same_setting}
use Rattle.command_line.specs.Options as options
use Rattle.command_line.specs.Options.{SeenWord, word_spelling, is_dash}

-- what a word is, given what the words before it are
pub data Role : Type 0 where
  Unknown : Role
  Lone : PlainOption → Role
  -- an option with its value behind `=`, one whose value is the next word, and that word
  Full : Setting → List ℕ → Role
  Open : Setting → Role
  Value : Setting → List ℕ → Role
  -- the first `--`
  Marker : Role
  Input : List ℕ → Role
  -- a word of the program that `lli` runs
  Argument : List ℕ → Role

-- Of the roles of the words before, the nearest first.

-- the option whose value the next word is
abbrev pub awaited : List Role → Option Setting
awaited (Open setting ∷ before) = Some setting
awaited before = None

-- the first `--` is among them
abbrev pub is_marked : List Role → Bool
is_marked [] = false
is_marked (Marker ∷ before) = true
is_marked (role ∷ before) = is_marked before

-- the words that are neither options nor their values, in their order
abbrev pub others : List Role → List (List ℕ)
others [] = []
others (Input word ∷ before) = others before ++ word ∷ []
others (Argument word ∷ before) = others before ++ word ∷ []
others (role ∷ before) = others before

-- there is none
abbrev pub is_empty : {A : Type 0} → List A → Bool
is_empty [] = true
is_empty (x ∷ xs) = false

-- behind the first other word of `lli`
abbrev pub is_program : Tool → Bool → Bool
is_program tools.Lli no_others = not no_others
is_program tool no_others = false

-- the role of a word that nothing before it decides
abbrev pub role_spelled : SeenWord → List ℕ → Role
role_spelled options.Marker word = Marker
role_spelled (options.Lone flag) word = Lone flag
role_spelled (options.Full setting value) word = Full setting value
role_spelled (options.Open setting) word = Open setting
role_spelled options.Unknown word = Unknown
role_spelled options.Input word = Input word

-- The first line that fits: the value of the option before it, a word of the program, an input behind `--`, what it is written as.
abbrev pub role_by : Option Setting → Bool → Bool → SeenWord → List ℕ → Role
role_by (Some setting) program marked spelling word = Value setting word
role_by None true marked spelling word = Argument word
role_by None false true spelling word = Input word
role_by None false false spelling word = role_spelled spelling word

-- the role of a word behind others
abbrev pub role : Tool → List Role → List ℕ → Role
role tool before word = role_by (awaited before) (is_program tool (is_empty (others before))) (is_marked before) (word_spelling tool word) word

-- the roles of all words, the last first
abbrev pub roles_onto : Tool → List Role → List (List ℕ) → List Role
roles_onto tool before [] = before
roles_onto tool before (word ∷ words) = roles_onto tool (role tool before word ∷ before) words

-- the roles of the words, the last one first
abbrev pub roles : Tool → List (List ℕ) → List Role
roles tool words = roles_onto tool [] words

-- the values that an option got, in their order
abbrev pub values : Setting → List Role → List (List ℕ)
values setting [] = []
values setting (Full other value ∷ before) = if same_setting setting other then values setting before ++ value ∷ [] else values setting before
values setting (Value other value ∷ before) = if same_setting setting other then values setting before ++ value ∷ [] else values setting before
values setting (role ∷ before) = values setting before

-- the flag is among them
abbrev pub has_flag : PlainOption → List Role → Bool
has_flag flag [] = false
has_flag flag (Lone other ∷ before) = same_flag flag other || has_flag flag before
has_flag flag (role ∷ before) = has_flag flag before

-- standard input is among the inputs
abbrev pub has_dash : List Role → Bool
has_dash [] = false
has_dash (Input word ∷ before) = is_dash word || has_dash before
has_dash (role ∷ before) = has_dash before
