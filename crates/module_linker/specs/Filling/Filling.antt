-- Says how the code of `define_symbols` reads: the linked module whose first entries are defined, and all others declared.
use Rattle.std.specs.Prelude.{◌≡◌, ℕ, List, length, filter_map, take, slice_get, Some}
use Rattle.linkage_rules.specs.Globals.{Global}
use Rattle.linkage_rules.specs.Ids.{modules, global_at}
use Rattle.linkage_rules.specs.declared.entry.EntryId.{EntryId}
use Rattle.module_arena.specs.Lists.{Lists, global_name}
use Rattle.module_arena.specs.Module.{Bytes, Module}
use Rattle.module_arena.specs.View.{module_of}
use Rattle.module_arena.specs.declared.entry.GlobalId.{GlobalId}
use Rattle.link_rules.specs.Linked.{alias_if, linked_globals}
use Rattle.item_build.specs.Types.Declarations.{AreUntargeted}
use Rattle.entry_copy.specs.Copies.{Copies}
use Rattle.entry_copy.specs.Tables.{Tables}
use Rattle.module_linker.specs.Stages.Copied.{AreCopied}
use Rattle.module_linker.specs.Stages.Declared.{bare}
use Rattle.module_linker.specs.Stages.Filled.{filled_to}
use Rattle.module_linker.specs.Stages.NewIds.{AllHaveNewIds}
use Rattle.module_linker.specs.Stages.Definitions.{definition_of}

-- the entry with that id is declared as this one, and not defined
abbrev pub IsBare : Lists → GlobalId → Global → Type 0
IsBare b id g = global_at (module_of b) id ≡ Some (bare g)

-- The entry with that id is declared in b, and not defined, as what these entries with that home are under that name: a is the part of the
-- home, which t copied to b, as the tables did all parts.
pub record IsBareEntry (parts : List Lists) (tables : List Tables) (home : EntryId) (ids : List EntryId) (name : Bytes) (a b : Lists) (t : Tables) (id : GlobalId) : Type 0 where
  pub there : slice_get parts home.part ≡ Some a
  pub copied_by : slice_get tables home.part ≡ Some t
  pub copied : AreCopied parts b tables
  pub new_ids : AllHaveNewIds parts b tables
  pub is_bare : IsBare b id (definition_of parts home ids name)

-- What is copied to b is copied to c as well, and its entries keep their names.
pub record KeepsCopied (b c : Lists) : Type 0 where
  pub copies : (structs globals : Bytes → Bytes) (a : Lists) (t : Tables) → Copies structs globals a b t → Copies structs globals a c t
  pub names : (g : GlobalId) (name : Bytes) → global_name b g ≡ Some name → global_name c g ≡ Some name

-- how many of the first so many entries of the linked module are aliases
abbrev pub aliases_among : ℕ → List Module → ℕ
aliases_among count parts = length (filter_map alias_if (take count (linked_globals parts)))

-- The first so many entries of the linked module are defined in b, and all are declared; everything of the parts is copied.
pub record IsFilling (parts : List Lists) (count : ℕ) (b : Lists) (tables : List Tables) : Type 0 where
  pub made : module_of b ≡ filled_to count (modules parts)
  pub untargeted : AreUntargeted (aliases_among count (modules parts)) b
  pub copied : AreCopied parts b tables
  pub new_ids : AllHaveNewIds parts b tables
