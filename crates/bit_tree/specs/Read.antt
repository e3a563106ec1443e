-- For `read_stream` and `judge`: what reading a whole stream answers.
use Rattle.std.specs.Prelude.{◌≡◌, ℕ, List, Some, Result, Ok, Err}
use Rattle.bit_stream.specs.declared.fault.StreamFault.{StreamFault}
use Rattle.bit_stream.specs.declared.fault.StreamFault.TheVariants.{Bit, Memory}
use Rattle.bit_tree.specs.Stream.{StreamTree, Stream, Shown, entries, stream_fault}

-- the entries of the stream's tree, or its first fault, or memory ran out
abbrev pub AllRead : List ℕ → Result (List Shown) StreamFault → Type 0
AllRead bytes (Ok all) = (tree : StreamTree) × Stream bytes tree × (entries tree ≡ all)
AllRead bytes (Err (Bit fault)) = stream_fault bytes ≡ Some fault
AllRead bytes (Err Memory) = Unit {0}

-- the bytes are the stream of a tree
pub record IsStream (bytes : List ℕ) : Type 0 where
  pub tree : StreamTree
  pub stream : Stream bytes tree

-- the bytes are the stream of a tree, or its first fault, or memory ran out
abbrev pub Judged : List ℕ → Result (Unit {0}) StreamFault → Type 0
Judged bytes (Ok done) = IsStream bytes
Judged bytes (Err (Bit fault)) = stream_fault bytes ≡ Some fault
Judged bytes (Err Memory) = Unit {0}
