-- For `copy_ground`: the linked module before any entry of it is declared, and how far the parts are copied then.
use Rattle.std.specs.Prelude.{◌≡◌, ℕ, List, length, slice_get, Some}
use Rattle.type_table.specs.Types.{structs}
use Rattle.module_arena.specs.Lists.{Lists}
use Rattle.module_arena.specs.Module.{Module}
use Rattle.linkage_rules.specs.Ids.{modules}
use Rattle.link_rules.specs.Linked.{link_result}
use Rattle.link_rules.specs.Structs.{new_struct}
use Rattle.entry_copy.specs.Copies.{CopiesTypes}
use Rattle.module_linker.specs.Head.Head.{texts_of}
use Rattle.entry_copy.specs.Tables.{Tables}

-- the texts and the structs
abbrev pub ground : List Module → Module
ground parts = record (texts_of parts) { structs = (link_result parts).structs }

-- All types of part i, whose lists are a, are copied to b under the new ids of t.
pub record HasTypes (parts : List Module) (i : ℕ) (a b : Lists) (t : Tables) : Type 0 where
  pub copies : CopiesTypes (new_struct parts i) a b t
  pub all : length t.types ≡ length a.table.types

-- The structs are those of the linked module, and all types of all parts are copied, each by the table of its part.
pub record HaveTypes (parts : List Lists) (b : Lists) (tables : List Tables) : Type 0 where
  pub count : length tables ≡ length parts
  pub structs : structs b.table ≡ (link_result (modules parts)).structs
  pub types : (i : ℕ) (a : Lists) (t : Tables) → slice_get parts i ≡ Some a → slice_get tables i ≡ Some t → HasTypes (modules parts) i a b t
