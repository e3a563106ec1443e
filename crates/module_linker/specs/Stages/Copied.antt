-- For `copy_constants` and `define_symbols`: the types and constants of all parts, copied under the new names.
use Rattle.std.specs.Prelude.{◌≡◌, ℕ, List, length, slice_get, Some}
use Rattle.linkage_rules.specs.Ids.{modules}
use Rattle.module_arena.specs.Lists.{Lists}
use Rattle.link_rules.specs.Rename.{new_global}
use Rattle.link_rules.specs.Structs.{new_struct}
use Rattle.entry_copy.specs.Copies.{Copies}
use Rattle.entry_copy.specs.Tables.{Tables}

-- All types and constants of each part are copied to b under the new ids of its table.
pub record AreCopied (parts : List Lists) (b : Lists) (tables : List Tables) : Type 0 where
  pub count : length tables ≡ length parts
  pub each : (i : ℕ) (a : Lists) (t : Tables)
      → slice_get parts i ≡ Some a
      → slice_get tables i ≡ Some t
      → Copies (new_struct (modules parts) i) (new_global (modules parts) i) a b t
