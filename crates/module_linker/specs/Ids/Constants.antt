-- Says how the code of `copy_constants` reads: the constants of the first so many parts are copied.
use Rattle.std.specs.Prelude.{◌≡◌, ℕ, ◌<◌, ◌≤◌, List, [], slice_get, Some}
use Rattle.linkage_rules.specs.Ids.{modules}
use Rattle.module_arena.specs.Lists.{Lists}
use Rattle.link_rules.specs.Rename.{new_global}
use Rattle.link_rules.specs.Structs.{new_struct}
use Rattle.entry_copy.specs.Copies.{Copies}
use Rattle.entry_copy.specs.Tables.{Tables}
use Rattle.module_linker.specs.Stages.Ground.{HaveTypes}
use Rattle.module_linker.specs.Stages.NewIds.{AllHaveNewIds}

-- All types of all parts are copied, each entry has its new id, and the constants of the first so many parts are copied.
pub record AreCopiedTo (parts : List Lists) (count : ℕ) (b : Lists) (tables : List Tables) : Type 0 where
  pub types : HaveTypes parts b tables
  pub ids : AllHaveNewIds parts b tables
  pub through : (i : ℕ) (a : Lists) (t : Tables) → i < count
      → slice_get parts i ≡ Some a
      → slice_get tables i ≡ Some t
      → Copies (new_struct (modules parts) i) (new_global (modules parts) i) a b t
  pub none : (i : ℕ) (t : Tables) → count ≤ i → slice_get tables i ≡ Some t → t.constants ≡ []
