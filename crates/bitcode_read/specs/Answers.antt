-- For `read`: what it answers.
use Rattle.std.specs.Prelude.{◌≡◌, ℕ, List, Some, Result, Ok, Err, ⊤}
use Rattle.bit_tree.specs.Stream.{StreamTree, Stream, stream_fault}
use Rattle.module_arena.specs.Lists.{Lists}
use Rattle.module_arena.specs.Module.{Module}
use Rattle.module_arena.specs.View.{module_of}
use Rattle.record_table.specs.Faults.{RecordFault}
use Rattle.record_table.specs.Records as table
use Rattle.record_read.specs.declared.fault.BitcodeFault.{BitcodeFault}
use Rattle.record_read.specs.declared.fault.BitcodeFault.TheVariants as fault
use Rattle.record_read.specs.Faults.{of_records}

-- the arena is the module
abbrev pub IsModule : Lists → Module → Type 0
IsModule arena m = module_of arena ≡ m

-- the first record of the stream's tree that is refused is told
pub record IsRefused (bytes : List ℕ) (given : BitcodeFault) : Type 0 where
  pub tree : StreamTree
  pub is_tree : Stream bytes tree
  pub told : RecordFault
  pub is_told : table.record_fault tree ≡ Some told
  pub same : given ≡ of_records told

-- the fault of a stream that has one, or, of a stream that is a tree, that of its first record that is refused; want of memory is free
abbrev pub IsReadFault : List ℕ → BitcodeFault → Type 0
IsReadFault bytes (fault.Bit bit) = stream_fault bytes ≡ Some bit
IsReadFault bytes fault.Memory = ⊤
IsReadFault bytes given = IsRefused bytes given

-- the arena is that module, or memory ran out
abbrev pub IsReadAs : Module → Result Lists BitcodeFault → Type 0
IsReadAs m (Ok arena) = IsModule arena m
IsReadAs m (Err given) = given ≡ fault.Memory
