-- For `copy_part`: one part while its types are copied and its structs get their bodies.
use Rattle.std.specs.Prelude.{◌≡◌, ℕ, ◌<◌, List, length, slice_get, Some}
use Rattle.module_arena.specs.Lists.{Lists}
use Rattle.module_arena.specs.Module.{Module}
use Rattle.module_arena.specs.Renamed.{renamed_body}
use Rattle.module_arena.specs.View.{module_of}
use Rattle.link_rules.specs.Linked.{link_result}
use Rattle.link_rules.specs.Structs.{new_struct}
use Rattle.type_table.specs.Types.{trees, tree_body}
use Rattle.type_table.specs.declared.ir_type.StructBody.{StructBody}
use Rattle.entry_copy.specs.Copies.{AllFit, CopiesTypes}
use Rattle.entry_copy.specs.Tables.{Tables}
use Rattle.item_build.specs.Partly.{IsPartly, body_at}
use Rattle.item_build.specs.Partly as some_defined
use Rattle.module_linker.specs.Stages.Parts.{CanLink}
use Rattle.module_linker.specs.Parts.Named.{KnowsStructs}

-- Part i, whose lists are a, is being copied to b, in which some structs of the linked module have no body yet. The structs are within
-- the limits, and so are the part's types under their new names.
pub record IsMaking (parts : List Module) (i : ℕ) (a b : Lists) (t : Tables) : Type 0 where
  pub can : CanLink parts
  pub part : slice_get parts i ≡ Some (module_of a)
  pub partly : IsPartly (link_result parts).structs b
  pub structs : some_defined.AllFit (link_result parts).structs
  pub fit : AllFit (new_struct parts i) (link_result parts).structs a
  pub knows : KnowsStructs parts i a t
  pub copies : CopiesTypes (new_struct parts i) a b t

-- The body of a struct of part i is, under its new names, that of the linked module's struct with this number.
pub record GivesBody (parts : List Module) (i : ℕ) (a : Lists) (new : ℕ) (body : StructBody) : Type 0 where
  pub known : new < length (link_result parts).structs
  pub renamed : renamed_body (new_struct parts i) (tree_body (trees a.table) (Some body)) ≡ body_at (link_result parts).structs new
