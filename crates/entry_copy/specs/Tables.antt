-- For all calls of `Copier`: what a contract sees of one: the new ids of structs, types, constants and entries, by
-- their old ids.
use Rattle.std.specs.Prelude.{ℕ, List, [], Option, None, slice_index_or}
use Rattle.module_arena.specs.declared.entry.GlobalId.{GlobalId}
use Rattle.module_arena.specs.declared.entry.GlobalId.TheVariants as global

-- the new ids; of types and constants those of the first ones, as many as were copied
pub record Tables : Type 0 where
  pub structs : List ℕ
  pub types : List ℕ
  pub constants : List ℕ
  pub variables : List (Option GlobalId)
  pub functions : List (Option GlobalId)
  pub aliases : List (Option GlobalId)

-- structs have these new ids, and nothing is copied yet
abbrev pub tables_of : List ℕ → Tables
tables_of structs = record { structs = structs; types = []; constants = []; variables = []; functions = []; aliases = [] }

-- entries have these new ids
abbrev pub with_entries : Tables → List (Option GlobalId) → List (Option GlobalId) → List (Option GlobalId) → Tables
with_entries t variables functions aliases = record t { variables = variables; functions = functions; aliases = aliases }

-- the types have these new ids
abbrev pub with_types : Tables → List ℕ → Tables
with_types t types = record t { types = types }

-- the constants have these new ids
abbrev pub with_constants : Tables → List ℕ → Tables
with_constants t constants = record t { constants = constants }

-- the new id of a struct; one that has none keeps its own
abbrev pub new_struct : Tables → ℕ → ℕ
new_struct t id = slice_index_or t.structs id id

-- the same of a type
abbrev pub new_type : Tables → ℕ → ℕ
new_type t id = slice_index_or t.types id id

-- the same of a constant
abbrev pub new_constant : Tables → ℕ → ℕ
new_constant t id = slice_index_or t.constants id id

-- the new id of an entry, where it has one
abbrev pub new_global : Tables → GlobalId → Option GlobalId
new_global t (global.Variable id) = slice_index_or t.variables id None
new_global t (global.Function id) = slice_index_or t.functions id None
new_global t (global.Alias id) = slice_index_or t.aliases id None
