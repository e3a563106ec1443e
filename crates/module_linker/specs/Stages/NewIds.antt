-- For `set_new_ids`: what each entry of each part is in the linked module.
use Rattle.std.specs.Prelude.{◌≡◌, ℕ, List, length, slice_get, Some}
use Rattle.linkage_rules.specs.Ids.{modules}
use Rattle.module_arena.specs.Lists.{Lists, global_name}
use Rattle.module_arena.specs.Module.{Bytes, Module}
use Rattle.module_arena.specs.declared.entry.GlobalId.{GlobalId}
use Rattle.link_rules.specs.Rename.{new_global}
use Rattle.entry_copy.specs.Tables.{Tables, new_global as new_id}

-- The entry of that name in part i has as its new id that of the entry of b under its new name.
pub record HasNewId (parts : List Module) (i : ℕ) (b : Lists) (t : Tables) (old : GlobalId) (name : Bytes) : Type 0 where
  pub id : GlobalId
  pub is : new_id t old ≡ Some id
  pub called : global_name b id ≡ Some (new_global parts i name)

-- Each entry of part i, whose lists are a, has a new id.
pub record HaveNewIds (parts : List Module) (i : ℕ) (a b : Lists) (t : Tables) : Type 0 where
  pub variables : length t.variables ≡ length a.variables
  pub functions : length t.functions ≡ length a.functions
  pub aliases : length t.aliases ≡ length a.aliases
  pub each : (g : GlobalId) (name : Bytes) → global_name a g ≡ Some name → HasNewId parts i b t g name

-- the same of all parts
abbrev pub AllHaveNewIds : List Lists → Lists → List Tables → Type 0
AllHaveNewIds parts b tables = (i : ℕ) (a : Lists) (t : Tables) → slice_get parts i ≡ Some a → slice_get tables i ≡ Some t → HaveNewIds (modules parts) i a b t
