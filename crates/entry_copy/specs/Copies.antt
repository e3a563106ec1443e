-- For `copy_types`, `copy_constants` and `copy_body` of `Copier`: when the new ids of one arena stand in another for
-- what the old ones stand for, under other names of structs and of globals.
use Rattle.std.specs.Prelude.{◌≡◌, ℕ, ◌<◌, ◌≤◌, List, [], length, slice_get, slice_index_or, All, Some, IsSome}
use Rattle.type_table.specs.Limits.{IsWithinLimits}
use Rattle.type_table.specs.Shape.{shape}
use Rattle.type_table.specs.declared.ir_type.StructBody as the_struct
use Rattle.type_table.specs.Tree.{TreeBody, Structs}
use Rattle.type_table.specs.Types.{names, trees, tree_body, IsKnownBody}
use Rattle.module_arena.specs.declared.entry.AliasType as the_alias_type
use Rattle.module_arena.specs.declared.entry.Body as the_body
use Rattle.module_arena.specs.declared.entry.GlobalId.{GlobalId}
use Rattle.module_arena.specs.Known.{counts, HasGlobal, KnowsBody, alias_types}
use Rattle.module_arena.specs.Lists.{Lists, global_name, name_at}
use Rattle.module_arena.specs.Module.{Bytes, LocalName, Block, AliasType}
use Rattle.module_arena.specs.Renamed.{renamed_tree, renamed_constant}
use Rattle.module_arena.specs.UsedNames.{names_in_constant}
use Rattle.module_arena.specs.View.{type_at, constant_at, constants_of, alias_type_view, body_view}
use Rattle.item_build.specs.Types.Stands.{IsType, IsConstant}
use Rattle.entry_copy.specs.Tables.{Tables, new_struct, new_type, new_constant, new_global}

-- The types that were copied from a to b are the same types, where structs have other names.
pub record CopiesTypes (structs : Bytes → Bytes) (a b : Lists) (t : Tables) : Type 0 where
  pub named : (id : ℕ) → id < length a.table.structs → slice_get (names b.table) (new_struct t id) ≡ Some (structs (slice_index_or (names a.table) id []))
  pub few_types : length t.types ≤ length a.table.types
  pub types : (id : ℕ) → id < length t.types → IsType b (new_type t id) (renamed_tree structs (type_at (trees a.table) id))

-- The types of a are within the limits where structs have other names and these bodies.
abbrev pub AllFit : (Bytes → Bytes) → Structs → Lists → Type 0
AllFit structs whole a = All (λ tree. IsWithinLimits (shape whole (renamed_tree structs tree))) (trees a.table)

-- Each entry of that name has a new id.
abbrev pub HasNew : Lists → Tables → Bytes → Type 0
HasNew a t name = (g : GlobalId) → global_name a g ≡ Some name → IsSome (new_global t g)

-- The constants that were copied from a to b are the same constants under other names, but for those that name an entry
-- which has no new id. A new id is that of the entry which has the new name.
pub record CopiesConstants (structs globals : Bytes → Bytes) (a b : Lists) (t : Tables) : Type 0 where
  pub entries : (g h : GlobalId) → HasGlobal (counts a) g → new_global t g ≡ Some h → HasGlobal (counts b) h × (name_at b h ≡ globals (name_at a g))
  pub few_constants : length t.constants ≤ length a.constants
  pub known : All (λ id. id < length b.constants) t.constants
  pub constants : (id : ℕ) → id < length t.constants → All (HasNew a t) (names_in_constant (constant_at (constants_of a) id))
      → IsConstant b (new_constant t id) (renamed_constant structs globals (constant_at (constants_of a) id))

-- All types and all constants were copied.
pub record Copies (structs globals : Bytes → Bytes) (a b : Lists) (t : Tables) : Type 0 where
  pub types : CopiesTypes structs a b t
  pub constants : CopiesConstants structs globals a b t
  pub all_types : length t.types ≡ length a.table.types
  pub all_constants : length t.constants ≡ length a.constants

-- The type of an alias is this one.
pub record IsAliasType (b : Lists) (copy : the_alias_type.AliasType) (expected : AliasType) : Type 0 where
  pub known : All (λ id. id < length b.table.types) (alias_types copy)
  pub ty : alias_type_view (trees b.table) copy ≡ expected

-- the blocks of a body behind parameters with these names
abbrev pub blocks_of : Lists → List LocalName → the_body.Body → List Block
blocks_of a parameters body = body_view (trees a.table) (constants_of a) parameters body

-- The body has these blocks, behind parameters with these names.
pub record IsBody (b : Lists) (parameters : List LocalName) (body : the_body.Body) (expected : List Block) : Type 0 where
  pub known : KnowsBody (length b.table.types) (length b.constants) (length parameters) body
  pub blocks : blocks_of b parameters body ≡ expected

-- The body of a struct is this one.
pub record IsStructBody (b : Lists) (copy : the_struct.StructBody) (expected : TreeBody) : Type 0 where
  pub known : IsKnownBody b.table copy
  pub body : tree_body (trees b.table) (Some copy) ≡ expected
