-- For `place_variables` and `put_contents`: the blocks of variables before anything is stored in them.
use Rattle.std.specs.Prelude.{◌≡◌, ℕ, ◌+◌, ◌^◌, ◌<◌, ◌≤◌, Bool, true, false, List, length, Some, slice_get, Result, Ok, Err}
use Rattle.ir_eval.specs.declared.value.Pointer.{Pointer}
use Rattle.ir_memory.specs.declared.kind.BlockKind.TheVariants as kind
use Rattle.ir_memory.specs.MemoryBlock.{new_block}
use Rattle.ir_memory.specs.Memory.{Blocks}
use Rattle.linkage_rules.specs.Addresses.{rooms}
use Rattle.module_arena.specs.Lists.{Lists}
use Rattle.module_arena.specs.View.{module_of}
use Rattle.run_names.specs.declared.spot.Spot.{Spot}
use Rattle.run_names.specs.Spots.{AreSpots}
use Rattle.run_names.specs.Told.{alone}
use Rattle.run_rules.specs.declared.end.End.{End}
use Rattle.run_rules.specs.declared.end.End.TheVariants.{MemoryLimit}

-- all blocks were made, or too many bytes would live
abbrev pub Fills : Bool → Result Blocks End → Blocks → Type 0
Fills true expected new = expected ≡ Ok new
Fills false expected new = expected ≡ Err MemoryLimit

-- each variable has a block, which is as it was made, where the variable lies, and nothing is sealed
pub record ArePlaced (a : Lists) (m : Blocks) : Type 0 where
  pub unsealed : m.sealed ≡ false
  pub many : length (rooms (alone (module_of a))) ≤ length m.list
  pub fresh : (spots : List Spot)
      → AreSpots a spots
      → (j : ℕ) (s : Spot)
      → slice_get spots j ≡ Some s
      → slice_get m.list j ≡ Some (new_block s.start s.size (kind.Variable s.constant))

-- a pointer to a block of so many bytes that is as it was made, and nothing is sealed
pub record IsNewBlock (m : Blocks) (p : Pointer) (size : ℕ) : Type 0 where
  pub index : ℕ
  pub constant : Bool
  pub of_block : p.block ≡ Some index
  pub there : slice_get m.list index ≡ Some (new_block p.address size (kind.Variable constant))
  pub near : p.address + size < 2 ^ 64
  pub unsealed : m.sealed ≡ false
