-- For `run_tool`: what reading an input took, why inputs were not read, and why a run stopped.
use Rattle.std.specs.Prelude.{◌≡◌, ◌⊎◌, ℕ, ◌+◌, ◌<◌, ◌≤◌, List, [], ◌∷◌, length, take, slice_get, codes, Option, Some, IfSome, option_map, if◌then◌else◌}
use Rattle.std.specs.Bool.{MatchBool}
use Rattle.std.specs.List.{IsAmong}
use Rattle.ir_base.specs.Outside.{Lost}
use Rattle.ir_base.specs.Files.{Named, IsMissing, IsOver, ReadsFrom}
use Rattle.command_line.specs.declared.command.OutputName.{OutputName}
use Rattle.command_line.specs.Options.{is_dash}
use Rattle.tool_output.specs.declared.ends.ended.Ended.{Ended}
use Rattle.tool_output.specs.declared.ends.ended.Ended.TheVariants.{CannotRead, InputTooLarge, Memory}
use Rattle.tool_cli.specs.declared.inputs.TheConstants.{LARGEST, LARGEST_TOGETHER}
use Rattle.tool_cli.specs.Output.{output_named, FailsToWrite}
use Rattle.tool_cli.specs.World.{FoundInput, Failures, World, failed}

-- no bytes are left, where that is told
abbrev pub IsEmptied : Option (List ℕ) → Type 0
IsEmptied left = IfSome left (λ bytes. bytes ≡ [])

-- the input of this name is this text: all that was left of standard input, or a file
pub record HasRead (contents : Option Named) (left_before left_now : Option (List ℕ)) (name text : List ℕ) : Type 0 where
  pub content : MatchBool (is_dash name) (Lost left_before left_now text × IsEmptied left_now) (ReadsFrom contents name text)
  pub few : length text ≤ LARGEST

-- `input_rose` and `files_rose` say that the count of faults of standard input, or of reads of files, rose.

-- the run gave up for what is outside of it: a read failed, or memory ran out
abbrev pub GaveUp : Type 0 → Type 0 → Ended → Type 0
GaveUp input_rose files_rose (CannotRead name) = MatchBool (is_dash name) input_rose files_rose
GaveUp input_rose files_rose Memory = Unit {0}
GaveUp input_rose files_rose ended = ⊥

-- an input of this name was not read: a read failed, or it is told that there is no such file
abbrev pub IsUnread : Option Named → Type 0 → Type 0 → List ℕ → Type 0
IsUnread contents input_rose files_rose name = MatchBool (is_dash name) input_rose (files_rose ⊎ IsMissing contents name)

-- where its content is told, an input of this name is over 16 MiB
abbrev pub IsLarge : Option Named → Option (List ℕ) → List ℕ → Type 0
IsLarge contents left name = MatchBool (is_dash name) (IfSome left (λ bytes. LARGEST < length bytes)) (IfSome contents (λ files. IsOver LARGEST files name))

-- an input of this name may hold this text, of at most 16 MiB: where it is told what it holds, it holds that
abbrev pub MayHold : Option Named → Option (List ℕ) → List ℕ → List ℕ → Type 0
MayHold contents left name text = MatchBool (is_dash name) (IfSome left (λ bytes. text ≡ bytes)) (ReadsFrom contents name text) × (length text ≤ LARGEST)

-- what is left of standard input behind an input of this name, where that is told
abbrev pub left_behind : Option (List ℕ) → List ℕ → Option (List ℕ)
left_behind left name = if is_dash name then option_map (λ bytes. []) left else left

-- inputs of these names may hold these texts, one behind the other
abbrev pub MayHoldAll : Option Named → Option (List ℕ) → List (List ℕ) → List (List ℕ) → Type 0
MayHoldAll contents left [] [] = Unit {0}
MayHoldAll contents left [] (text ∷ texts) = ⊥
MayHoldAll contents left (name ∷ names) [] = ⊥
MayHoldAll contents left (name ∷ names) (text ∷ texts) = MayHold contents left name text × MayHoldAll contents (left_behind left name) names texts

-- how many bytes texts are together
abbrev pub bytes_of_all : List (List ℕ) → ℕ
bytes_of_all [] = 0
bytes_of_all (text ∷ texts) = length text + bytes_of_all texts

-- the inputs up to one of that name may hold more than 32 MiB together
pub record MayPassTogether (contents : Option Named) (left : Option (List ℕ)) (names : List (List ℕ)) (name : List ℕ) : Type 0 where
  pub place : ℕ
  pub is : slice_get names place ≡ Some name
  pub texts : List (List ℕ)
  pub held : MayHoldAll contents left (take (place + 1) names) texts
  pub over : LARGEST_TOGETHER < bytes_of_all texts

-- the limit that an input of this name passed: that of one input, or that of all of these up to it
abbrev pub IsPassed : Option Named → Option (List ℕ) → List (List ℕ) → List ℕ → ℕ → Type 0
IsPassed contents left names name limit = ((limit ≡ LARGEST) × IsLarge contents left name) ⊎ ((limit ≡ LARGEST_TOGETHER) × MayPassTogether contents left names name)

-- this end refuses standard input
abbrev pub RefusesStdin : Option (List ℕ) → Type 0 → Ended → Type 0
RefusesStdin left rose (CannotRead name) = (name ≡ codes "-") × rose
RefusesStdin left rose (InputTooLarge name limit) = (name ≡ codes "-") × (limit ≡ LARGEST) × IfSome left (λ bytes. LARGEST < length bytes)
RefusesStdin left rose Memory = Unit {0}
RefusesStdin left rose ended = ⊥

-- this end refuses the file of this name
abbrev pub RefusesFile : Option Named → Type 0 → List ℕ → Ended → Type 0
RefusesFile contents rose name (CannotRead other) = (other ≡ name) × (rose ⊎ IsMissing contents name)
RefusesFile contents rose name (InputTooLarge other limit) = (other ≡ name) × (limit ≡ LARGEST) × IfSome contents (λ files. IsOver LARGEST files name)
RefusesFile contents rose name Memory = Unit {0}
RefusesFile contents rose name ended = ⊥

-- this end refuses the input of this name, by itself
abbrev pub Refuses : FoundInput → List ℕ → Ended → Type 0
Refuses found name (CannotRead other) = (other ≡ name) × IsUnread found.contents found.input_rose found.files_rose name
Refuses found name (InputTooLarge other limit) = (other ≡ name) × (limit ≡ LARGEST) × IsLarge found.contents found.left name
Refuses found name Memory = Unit {0}
Refuses found name ended = ⊥

-- this end refuses one of the inputs of these names
abbrev pub RefusesOne : FoundInput → List (List ℕ) → Ended → Type 0
RefusesOne found names (CannotRead name) = IsAmong names name × IsUnread found.contents found.input_rose found.files_rose name
RefusesOne found names (InputTooLarge name limit) = IsAmong names name × IsPassed found.contents found.left names name limit
RefusesOne found names Memory = Unit {0}
RefusesOne found names ended = ⊥

-- standard input was not read, or memory ran out
abbrev pub IsStdinOrMemory : Ended → Type 0
IsStdinOrMemory (CannotRead name) = name ≡ codes "-"
IsStdinOrMemory Memory = Unit {0}
IsStdinOrMemory ended = ⊥

-- an input was not read, or memory ran out
abbrev pub IsUnreadOrMemory : Ended → Type 0
IsUnreadOrMemory (CannotRead name) = Unit {0}
IsUnreadOrMemory Memory = Unit {0}
IsUnreadOrMemory ended = ⊥

-- the run stopped for what is outside of it: a read or a write failed, or memory ran out
abbrev pub Stopped : Option OutputName → Failures → Ended → Type 0
Stopped output failed ended = GaveUp failed.input_rose failed.files_rose ended ⊎ FailsToWrite output failed.output_rose failed.writes_rose ended

-- the run of these words did, between these two times
abbrev pub IsStopped : {I O F : Type 0} → List (List ℕ) → World I O F → World I O F → Ended → Type 0
IsStopped words before now ended = Stopped (output_named words) (failed before now) ended
