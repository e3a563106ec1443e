-- For `read_words`: where the result goes.
use Rattle.std.specs.Prelude.{ℕ, ◌-◌, ◌==◌, List, [], ◌∷◌, ◌++◌, length, take, Option, Some, None, if◌then◌else◌}
use Rattle.std.specs.List.{ends_with}
use Rattle.command_line.specs.declared.command.OutputName.{OutputName}
use Rattle.command_line.specs.declared.command.OutputName.TheVariants.{Standard, File}
use Rattle.command_line.specs.Options.{is_dash}

-- the output that a word names: `-` is standard output
abbrev pub output_name : List ℕ → OutputName
output_name name = if is_dash name then Standard else File name

-- the output that the first value names
abbrev pub first_output : List (List ℕ) → Option OutputName
first_output [] = None
first_output (value ∷ values) = Some (output_name value)

-- the output that is given, or else the default
abbrev pub output_from : OutputName → Option OutputName → OutputName
output_from default None = default
output_from default (Some output) = output

-- the name without this ending, where it has it
abbrev pub stem : List ℕ → List ℕ → List ℕ
stem name ending = if ends_with (λ a b. a == b) name ending then take (length name - length ending) name else name

-- the name with its ending replaced by the other, or with the other added
abbrev pub default_file : List ℕ → List ℕ → List ℕ → List ℕ
default_file name ending other = stem name ending ++ other

-- the output for this input: standard output for standard input
abbrev pub default_name : List ℕ → List ℕ → List ℕ → OutputName
default_name input ending other = if is_dash input then Standard else File (default_file input ending other)
