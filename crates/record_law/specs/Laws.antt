-- For `modules_are_read_back` and the laws beside it: the laws of whole modules.
use Rattle.std.specs.Prelude.{◌≡◌, ◌⊎◌, Some}
use Rattle.std.specs.List.{AllByRecursion}
use Rattle.bit_stream.specs.Writer.{begun}
use Rattle.bit_tree.specs.Stream.{StreamTree}
use Rattle.bit_tree.specs.Written.{no_more, tree_of}
use Rattle.module_arena.specs.Module.{Module}
use Rattle.record_table.specs.Listed.{AreBytes}
use Rattle.record_table.specs.StringTable.{read_only}
use Rattle.record_law.specs.FittingModules.{ModuleFits}
use Rattle.record_table.specs.Faults.{RecordFault, records, module_id}
use Rattle.record_table.specs.Records.{StandFor, record_fault, module_block, read}
use Rattle.record_table.specs.Spelling.{put_block, put_module, written_module, records_put, string_table, texts_of, texts_in}

-- a tree stands for a module, or a first record of it is refused
abbrev pub TreesAreReadOrRefused : Type 0
TreesAreReadOrRefused = (tree : StreamTree) → ((m : Module) × StandFor tree m) ⊎ ((fault : RecordFault) × (record_fault tree ≡ Some fault))

-- a tree stands for one module alone
abbrev pub TreesStandForOne : Type 0
TreesStandForOne = (tree : StreamTree) (m n : Module) → StandFor tree m → StandFor tree n → m ≡ n

-- the tree that is written has the records that were put
abbrev pub RecordsAreThosePut : Type 0
RecordsAreThosePut = (m : Module) → records (tree_of begun (written_module m)) ≡ records_put (written_module m)

-- the producer and the string table are read back: what is read of a module is what its block says, in its table
abbrev pub OpeningsAreReadBack : Type 0
OpeningsAreReadBack = (m : Module) → AllByRecursion AreBytes (texts_of m)
    → read (records_put (written_module m)) ≡ module_block (read_only (string_table m)) 2 (records_put (put_block module_id (put_module (texts_in m) m) no_more))

-- a module that fits is what the tree that is written of it stands for
abbrev pub ModulesAreReadBack : Type 0
ModulesAreReadBack = (m : Module) → ModuleFits m → StandFor (tree_of begun (written_module m)) m
