-- For `run_tool`, and how the code of `read_inputs` reads: in which order inputs are read. One that is refused leaves those behind it untouched.
use Rattle.std.specs.Prelude.{◌≡◌, ◌⊎◌, ℕ, Bool, false, not, List, [], ◌∷◌, Option, Some, None, Err, if◌then◌else◌}
use Rattle.std.specs.List.{IsAmong, list_any}
use Rattle.ir_base.specs.Files.{Named}
use Rattle.command_line.specs.Options.{is_dash}
use Rattle.tool_output.specs.declared.ends.ended.Ended.{Ended}
use Rattle.tool_output.specs.declared.ends.ended.Ended.TheVariants.{CannotRead, InputTooLarge}
use Rattle.tool_cli.specs.Inputs.{texts_read}
use Rattle.tool_cli.specs.Causes.{GaveUp}

-- one of the inputs is a file
abbrev pub has_file : List (List ℕ) → Bool
has_file names = list_any (λ name. not (is_dash name)) names

-- the names behind the first that is standard input
abbrev pub behind_stdin : List (List ℕ) → List (List ℕ)
behind_stdin [] = []
behind_stdin (name ∷ names) = if is_dash name then names else behind_stdin names

-- each input of this name is a file, and stands before standard input
abbrev pub IsBeforeStdin : List (List ℕ) → List ℕ → Type 0
IsBeforeStdin names name = (is_dash name ≡ false) × (IsAmong (behind_stdin names) name → ⊥)

-- the name of the input that was not read, or was too large
abbrev pub refused_input : Ended → Option (List ℕ)
refused_input (CannotRead name) = Some name
refused_input (InputTooLarge name limit) = Some name
refused_input ended = None

-- standard input is untouched where an input before it is refused
abbrev pub KeepsOrder : {A : Type 0} → List (List ℕ) → A → A → Ended → Type 0
KeepsOrder names before now ended = (name : List ℕ) → refused_input ended ≡ Some name → IsBeforeStdin names name → now ≡ before

-- the names in front of the first that is standard input
abbrev pub before_stdin : List (List ℕ) → List (List ℕ)
before_stdin [] = []
before_stdin (name ∷ names) = if is_dash name then [] else name ∷ before_stdin names

-- by what these files hold, this refuses the first input that is refused in front of standard input
abbrev pub IsRefusedInFront : Named → List (List ℕ) → Ended → Type 0
IsRefusedInFront held names refusal = texts_read held [] 0 (before_stdin names) ≡ Err refusal

-- where the files are told, and refuse an input in front of it, standard input is untouched, whatever the answer
abbrev pub KeepsTurn : {A : Type 0} → Option Named → List (List ℕ) → A → A → Type 0
KeepsTurn contents names before now = (held : Named) (refusal : Ended) → contents ≡ Some held → IsRefusedInFront held names refusal → now ≡ before

-- and the answer is that refusal, but for a read of a file that failed, and for want of memory
abbrev pub IsInTurn : Option Named → Type 0 → List (List ℕ) → Ended → Type 0
IsInTurn contents files_rose names ended =
    (held : Named) (refusal : Ended)
    → contents ≡ Some held
    → IsRefusedInFront held names refusal
    → (ended ≡ refusal) ⊎ GaveUp ⊥ files_rose ended

-- where the files are told, they refuse no input in front of standard input
abbrev pub HasFineFront : Option Named → List (List ℕ) → Type 0
HasFineFront contents names = (held : Named) (refusal : Ended) → contents ≡ Some held → IsRefusedInFront held names refusal → ⊥
