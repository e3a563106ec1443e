-- For `types_are_read_back`: that the block of types which is written of a module is read as its types and structs.
use Rattle.std.specs.Prelude.{◌≡◌, ℕ, Ok}
use Rattle.bit_tree.specs.Written.{no_more}
use Rattle.type_table.specs.Types.{trees, structs}
use Rattle.module_arena.specs.Module.{Module}
use Rattle.record_table.specs.Mentions.{mentioned}
use Rattle.record_table.specs.TypeRecords.{Listed, listed}
use Rattle.record_table.specs.Spelling.{put, records_put, type_lines, texts_in}

-- the block of types, which stands behind so many records, is read as the types and structs of the module
pub record TypesAreRead (m : Module) (at : ℕ) : Type 0 where
  pub all : Listed
  pub is : listed (texts_in m) at (records_put (put (type_lines (texts_in m) (mentioned m) m) no_more)) ≡ Ok all
  pub types_are : trees all.types ≡ mentioned m
  pub structs_are : structs all.types ≡ m.structs
