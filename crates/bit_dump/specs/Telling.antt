-- Says how the code reads: how far a text is told, of which a front was written.
use Rattle.std.specs.Prelude.{◌≡◌, ℕ, ◌≤◌, Bool, List, ◌++◌, length, take, Option, Result, Ok, Err}
use Rattle.ir_base.specs.Outside.{Added}
use Rattle.bit_tree.specs.Stream.{StreamTree, Stream}
use Rattle.bit_tree.specs.Pieces.{Piece, flat}
use Rattle.bit_dump.specs.declared.fault.DumpFault.{DumpFault}
use Rattle.bit_dump.specs.declared.fault.DumpFault.TheVariants.{Bit, WriteFault, Memory}
use Rattle.bit_dump.specs.Outline.{Outline, front, nothing_told}

-- nothing is told of the stream of a tree, and all its pieces are left
pub record IsUntold (bytes : List ℕ) (whole : Bool) (left : List Piece) (o : Outline) : Type 0 where
  pub tree : StreamTree
  pub stream : Stream bytes tree
  pub left_is : left ≡ flat tree
  pub told_is : o ≡ nothing_told whole

-- so much is told: a front of its text was added, and the rest is gathered
pub record Tells (before now : Option (List ℕ)) (all o : Outline) : Type 0 where
  pub written : List ℕ
  pub added : Added before now written
  pub is : front written o ≡ all

-- a front of a text was added
pub record TookFront (before now : Option (List ℕ)) (text : List ℕ) : Type 0 where
  pub count : ℕ
  pub within : count ≤ length text
  pub added : Added before now (take count text)

-- so much is told, or a write failed or memory ran out behind a front of it
abbrev pub Tried : Option (List ℕ) → Option (List ℕ) → Outline → Outline → Result (Unit {0}) DumpFault → Type 0
Tried before now all o (Ok done) = Tells before now all o
Tried before now all o (Err (Bit fault)) = ⊥
Tried before now all o (Err WriteFault) = TookFront before now all.text
Tried before now all o (Err Memory) = TookFront before now all.text

-- a call tells this step more, whatever was told before it
abbrev pub Adds : (Outline → Outline) → Option (List ℕ) → Outline → Option (List ℕ) → Outline → Result (Unit {0}) DumpFault → Type 0
Adds more taken old later new result = (before : Option (List ℕ)) (all : Outline) → Tells before taken all old → Tried before later (more all) new result

-- of a text a front was written, and the rest is gathered
pub record WroteFirst (before now : Option (List ℕ)) (all rest : List ℕ) : Type 0 where
  pub written : List ℕ
  pub added : Added before now written
  pub is : written ++ rest ≡ all

-- a text came behind what was gathered, and a front of all that was written; or a write failed or memory ran out behind one
abbrev pub Spilled : List ℕ → Option (List ℕ) → List ℕ → Option (List ℕ) → List ℕ → Result (Unit {0}) DumpFault → Type 0
Spilled text before old now new (Ok done) = WroteFirst before now (old ++ text) new
Spilled text before old now new (Err (Bit fault)) = ⊥
Spilled text before old now new (Err WriteFault) = TookFront before now (old ++ text)
Spilled text before old now new (Err Memory) = TookFront before now (old ++ text)

-- the last text was added, or a front of it
abbrev pub Finished : Option (List ℕ) → Option (List ℕ) → List ℕ → Result (Unit {0}) DumpFault → Type 0
Finished before now text (Ok done) = Added before now text
Finished before now text (Err (Bit fault)) = ⊥
Finished before now text (Err WriteFault) = TookFront before now text
Finished before now text (Err Memory) = TookFront before now text
