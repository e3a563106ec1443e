-- For `dump`: what it answers and what it leaves its sink with.
use Rattle.std.specs.Prelude.{◌≡◌, ◌⊎◌, ℕ, Bool, List, take, Option, Some, Result, Ok, Err}
use Rattle.ir_base.specs.Outside.{Added, Rose}
use Rattle.bit_tree.specs.Stream.{StreamTree, Stream, stream_fault}
use Rattle.bit_dump.specs.declared.fault.DumpFault.{DumpFault}
use Rattle.bit_dump.specs.declared.fault.DumpFault.TheVariants.{Bit, WriteFault, Memory}
use Rattle.bit_dump.specs.Text.{dump_text}

-- a front of the text of the stream's tree was added
pub record WroteFront (bytes : List ℕ) (whole : Bool) (before now : Option (List ℕ)) : Type 0 where
  pub tree : StreamTree
  pub stream : Stream bytes tree
  pub count : ℕ
  pub added : Added before now (take count (dump_text tree whole))

-- The bytes are the stream of a tree and its text was added; or a field of them is refused, and nothing was written; or a
-- write failed behind a front of the text; or memory ran out behind one, or before anything was written.
abbrev pub Dumped : List ℕ → Bool → Option (List ℕ) → Option (List ℕ) → Result (Unit {0}) DumpFault → Type 0
Dumped bytes whole before now (Ok done) = (tree : StreamTree) × Stream bytes tree × Added before now (dump_text tree whole)
Dumped bytes whole before now (Err (Bit fault)) = (stream_fault bytes ≡ Some fault) × (now ≡ before)
Dumped bytes whole before now (Err WriteFault) = WroteFront bytes whole before now
Dumped bytes whole before now (Err Memory) = (now ≡ before) ⊎ WroteFront bytes whole before now

-- the count of faults rose where a write failed, and nowhere else
abbrev pub Counted : ℕ → ℕ → Result (Unit {0}) DumpFault → Type 0
Counted before now (Ok done) = now ≡ before
Counted before now (Err (Bit fault)) = now ≡ before
Counted before now (Err WriteFault) = Rose before now
Counted before now (Err Memory) = now ≡ before
