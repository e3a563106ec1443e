-- For `put`, `get` and the other calls of `MemoryFiles`: files in memory.
use Rattle.std.specs.Prelude.{◌≡◌, ◌⊎◌, ℕ, Bool, nat_le, List, length, Option, Some, None, Result, Ok, Err, bytes_eq, IsTrue, if◌then◌else◌}
use Rattle.std.specs.Map.{lookup}
use Rattle.ir_base.specs.Calls.{next_count, next_fails}
use Rattle.ir_base.specs.Files.{Named}
use Rattle.ir_base.specs.declared.files.FileFault.{FileFault}
use Rattle.ir_base.specs.declared.files.FileFault.TheVariants.{Failed, TooLarge}

-- each file's name and bytes, the numbers of the calls that fail, how many calls were made, and how many of those
-- that failed were reads and writes
pub record FilesState : Type 0 where
  pub files : List (List ℕ × List ℕ)
  pub fails : List ℕ
  pub calls : ℕ
  pub read_faults : ℕ
  pub write_faults : ℕ

-- what the list has under each name
abbrev pub named_in : List (List ℕ × List ℕ) → Named
named_in files name = lookup (bytes_eq name) files

-- the files by their names
abbrev pub files_named : FilesState → Named
files_named state = named_in state.files

-- the next call of a file is told to fail
abbrev pub fails_next : FilesState → Bool
fails_next state = next_fails state.fails state.calls

-- one fault more, where there was one
abbrev pub counted : Bool → ℕ → ℕ
counted failed faults = if failed then next_count faults else faults

-- what the file of this name gives, within the limit
abbrev pub within_limit : ℕ → Option (List ℕ) → Result (List ℕ) FileFault
within_limit limit None = Err Failed
within_limit limit (Some bytes) = if nat_le (length bytes) limit then Ok bytes else Err TooLarge

-- what a read leaves
abbrev pub after_read : FilesState → FilesState
after_read state =
    record state {
      calls = next_count state.calls;
      read_faults = counted (fails_next state) state.read_faults;
    }

-- what a write leaves, with these files
abbrev pub after_write : FilesState → List (List ℕ × List ℕ) → FilesState
after_write state files =
    record state {
      files = files;
      calls = next_count state.calls;
      write_faults = counted (fails_next state) state.write_faults;
    }

-- a read of this name fails: its call is planned to fail, or there is no file of this name
abbrev pub ReadFails : FilesState → List ℕ → Type 0
ReadFails state name = IsTrue (fails_next state) ⊎ (files_named state name ≡ None)
