-- Says how the code of `read` reads: a stream whose module's block was entered.
use Rattle.std.specs.Prelude.{◌≡◌, ℕ, List, [], ◌∷◌, Result, Ok, Err}
use Rattle.bit_tree.specs.Pieces.{Piece, ended}
use Rattle.bit_tree.specs.Stream.{StreamTree, Stream}
use Rattle.module_arena.specs.Lists.{Lists}
use Rattle.module_arena.specs.Module.{Module}
use Rattle.record_table.specs.Faults.{◌>>=◌, Records, records as records_of}
use Rattle.record_table.specs.Records as table
use Rattle.record_read.specs.declared.fault.BitcodeFault.{BitcodeFault}
use Rattle.record_read.specs.declared.texts.Texts as the_texts
use Rattle.record_read.specs.Entries.{IsBefore}
use Rattle.record_read.specs.Faults.{Answers}
use Rattle.record_read.specs.Fields.{texts_of}
use Rattle.record_read.specs.Reader.{Reader}
use Rattle.bitcode_read.specs.Head.Ahead.{IsAhead, first_module}
use Rattle.bitcode_read.specs.declared.head.ahead.ModuleAhead.{ModuleAhead}
use Rattle.bitcode_read.specs.Answers.{IsModule}
use Rattle.bitcode_read.specs.declared.opening.Opening.{Opening}

-- The reader stands in the module's block, of which that is known ahead: the stream stands for what the block does, where nothing is
-- behind it.
pub record IsOpened (tree : StreamTree) (texts : the_texts.Texts) (reader : Reader) (known : ModuleAhead) : Type 0 where
  pub others : List Piece
  pub behind : Records
  pub before : IsBefore reader.left (first_module (records_of tree)) (ended ∷ others)
  pub later : IsBefore others behind []
  pub is_known : IsAhead (texts_of texts) (first_module (records_of tree)) known
  pub from : table.read (records_of tree)
      ≡ (table.module_from (table.at_first (texts_of texts) reader.at (first_module (records_of tree))) (first_module (records_of tree))
      >>= λ s. table.nothing_behind s behind)

-- it was entered, or what stands in front of it refuses the stream
abbrev pub Opens : StreamTree → Result Opening BitcodeFault → Type 0
Opens tree (Ok opening) = IsOpened tree opening.texts opening.reader opening.known
Opens tree (Err given) = Answers {A = Module} {B = Lists} IsModule (table.read (records_of tree)) (Err given)

-- the same of some bytes
pub record IsOpenedStream (bytes : List ℕ) (texts : the_texts.Texts) (reader : Reader) (known : ModuleAhead) : Type 0 where
  pub tree : StreamTree
  pub is_tree : Stream bytes tree
  pub opened : IsOpened tree texts reader known
