-- Says how the code of `copy_ground` reads: parts that are copied one after another.
use Rattle.std.specs.Prelude.{◌≡◌, ℕ, List, slice_get, All, Some}
use Rattle.linkage_rules.specs.Ids.{modules}
use Rattle.module_arena.specs.Lists.{Lists}
use Rattle.module_arena.specs.View.{module_of}
use Rattle.link_rules.specs.Linked.{link_result}
use Rattle.entry_copy.specs.Tables.{Tables, tables_of, with_types}
use Rattle.item_build.specs.Partly.{IsPartly}
use Rattle.module_linker.specs.Parts.Named.{AreDone}
use Rattle.module_linker.specs.Stages.Ground.{HasTypes}
use Rattle.module_linker.specs.Stages.Parts.{CanLink}
use Rattle.link_names.specs.Rows.Numbers.{AreOfPart}

-- the structs of that part are those with these numbers
abbrev pub StructsAre : List Lists → ℕ → List ℕ → Type 0
StructsAre parts part numbers = (a : Lists) → slice_get parts part ≡ Some a → AreOfPart (modules parts) part (module_of a) numbers

-- The first parts, as many as there are tables, are copied to b: their types, and their structs with their bodies, but nothing else.
pub record IsMade (parts : List Lists) (b : Lists) (tables : List Tables) : Type 0 where
  pub can : CanLink (modules parts)
  pub partly : IsPartly (link_result (modules parts)).structs b
  pub types : (i : ℕ) (a : Lists) (t : Tables) → slice_get parts i ≡ Some a → slice_get tables i ≡ Some t → HasTypes (modules parts) i a b t
  pub done : (i : ℕ) (a : Lists) (t : Tables) → slice_get parts i ≡ Some a → slice_get tables i ≡ Some t → AreDone (modules parts) a b t
  pub nothing_else : All (λ t. t ≡ with_types (tables_of t.structs) t.types) tables
