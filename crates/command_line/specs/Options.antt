-- For `read_words`: how an option is written: one dash or two, a name, and behind the first `=` a value.
use Rattle.std.specs.Prelude.{◌∷◌, [], ℕ, ◌+◌, Bool, ◌==◌, List, take, drop, position, codes, bytes_eq, Option, Some, None, if◌then◌else◌}
use Rattle.std.specs.List.{starts_with}
use Rattle.command_line.specs.declared.tool.Tool.{Tool}
use Rattle.command_line.specs.declared.options.PlainOption.{PlainOption}
use Rattle.command_line.specs.declared.options.PlainOption.TheVariants as flags
use Rattle.command_line.specs.declared.options.Setting.{Setting}
use Rattle.command_line.specs.declared.options.Setting.TheVariants as settings
use Rattle.command_line.specs.declared.options.WordSpelling.{WordSpelling}
use Rattle.command_line.specs.declared.options.WordSpelling.TheVariants as spellings
use Rattle.command_line.specs.Tools.{row_of, has, takes}

-- the flag of a name
abbrev pub flag_named : List ℕ → Option PlainOption
flag_named = row_of (
    (codes "S", flags.Text) ∷
    (codes "delete", flags.Delete) ∷
    (codes "recursive", flags.Recursive) ∷
    (codes "dump", flags.Dump) ∷
    [])

-- the setting of a name
abbrev pub setting_named : List ℕ → Option Setting
setting_named = row_of (
    (codes "o", settings.Output) ∷
    (codes "func", settings.Function) ∷
    (codes "glob", settings.Variable) ∷
    (codes "alias", settings.Alias) ∷
    (codes "max-steps", settings.MaxSteps) ∷
    [])

-- the word for a standard stream
abbrev pub is_dash : List ℕ → Bool
is_dash word = bytes_eq word (codes "-")

-- the two dashes after which there are no options
abbrev pub is_marker : List ℕ → Bool
is_marker word = bytes_eq word (codes "--")

-- a word without its one dash or two
abbrev pub undashed : List ℕ → Option (List ℕ)
undashed word =
    if starts_with (λ a b. a == b) word (codes "--") then Some (drop 2 word)
    else if starts_with (λ a b. a == b) word (codes "-") then Some (drop 1 word)
    else None

-- what stands before the first `=`, and behind it
abbrev pub name_before : List ℕ → Option ℕ → List ℕ
name_before option None = option
name_before option (Some at) = take at option

-- what stands behind the `=`
abbrev pub value_behind : List ℕ → Option ℕ → Option (List ℕ)
value_behind option None = None
value_behind option (Some at) = Some (drop (at + 1) option)

-- where the first `=` stands
abbrev pub equals_sign : List ℕ → Option ℕ
equals_sign option = position (λ byte. byte == 61) option

-- what stands before the first `=`
abbrev pub name_part : List ℕ → List ℕ
name_part option = name_before option (equals_sign option)

-- what stands behind the first `=`
abbrev pub value_part : List ℕ → Option (List ℕ)
value_part option = value_behind option (equals_sign option)

-- what a word is where an option may stand
pub data SeenWord : Type 0 where
  Marker : SeenWord
  -- an option without a value, one with its value behind `=`, and one whose value is the next word
  Lone : PlainOption → SeenWord
  Full : Setting → List ℕ → SeenWord
  Open : Setting → SeenWord
  Unknown : SeenWord
  Input : SeenWord

-- an option of the tool, with the value behind its `=` where it has one
abbrev pub option_named : Tool → Option PlainOption → Option Setting → Option (List ℕ) → SeenWord
option_named tool (Some flag) setting None = if has tool flag then Lone flag else Unknown
option_named tool (Some flag) setting (Some value) = Unknown
option_named tool None (Some setting) None = if takes tool setting then Open setting else Unknown
option_named tool None (Some setting) (Some value) = if takes tool setting then Full setting value else Unknown
option_named tool None None value = Unknown

-- what a word is, by what stands behind its dashes, or that it has none
abbrev pub spelled_behind : Tool → Option (List ℕ) → SeenWord
spelled_behind tool None = Input
spelled_behind tool (Some option) = option_named tool (flag_named (name_part option)) (setting_named (name_part option)) (value_part option)

-- what a word is, whatever stands before it
unfoldable pub word_spelling : Tool → List ℕ → SeenWord
word_spelling tool word =
    if is_dash word then Input
    else if is_marker word then Marker
    else spelled_behind tool (undashed word)

-- the code's answer without its reference
abbrev pub seen : WordSpelling → SeenWord
seen spellings.Marker = Marker
seen (spellings.Lone flag) = Lone flag
seen (spellings.Full setting value) = Full setting value.now
seen (spellings.Open setting) = Open setting
seen spellings.Unknown = Unknown
seen spellings.Input = Input
