-- Says how the code of `set_new_ids` reads: new ids that are filed, part by part, under the ids of entries.
use Rattle.std.specs.Prelude.{◌≡◌, ℕ, Bool, ◌&&◌, nat_eq, if◌then◌else◌, List, length, map, slice_get, slice_index_or, slice_set, Option, Some, None}
use Rattle.std.specs.List.{list_any}
use Rattle.linkage_rules.specs.Grouped.{key_in}
use Rattle.linkage_rules.specs.Ids.{IsEntryId, global_id, modules}
use Rattle.linkage_rules.specs.declared.entry.EntryId.{EntryId}
use Rattle.linkage_rules.specs.declared.symbol.Symbol.{Symbol}
use Rattle.module_arena.specs.Known.{Counts, HasGlobal}
use Rattle.module_arena.specs.Lists.{Lists}
use Rattle.module_arena.specs.SameConst.{same_global}
use Rattle.module_arena.specs.declared.entry.GlobalId.{GlobalId}
use Rattle.module_arena.specs.declared.entry.GlobalId.TheVariants as global

-- the new ids of the entries of a part, each where it is known
pub record KnownIds : Type 0 where
  pub variables : List (Option GlobalId)
  pub functions : List (Option GlobalId)
  pub aliases : List (Option GlobalId)

-- how many places there are, of each kind
abbrev pub places : KnownIds → Counts
places ids = record { variables = length ids.variables; aliases = length ids.aliases; functions = length ids.functions }

-- the new id of an entry
abbrev pub known_id : KnownIds → GlobalId → Option GlobalId
known_id ids (global.Variable id) = slice_index_or ids.variables id None
known_id ids (global.Function id) = slice_index_or ids.functions id None
known_id ids (global.Alias id) = slice_index_or ids.aliases id None

-- the same places, where this is the new id of that entry
abbrev pub with_known : KnownIds → GlobalId → GlobalId → KnownIds
with_known ids (global.Variable id) new = record ids { variables = slice_set ids.variables id (Some new) }
with_known ids (global.Function id) new = record ids { functions = slice_set ids.functions id (Some new) }
with_known ids (global.Alias id) new = record ids { aliases = slice_set ids.aliases id (Some new) }

-- ---- all parts

-- the new id of an entry of a part that may be there
abbrev pub known_in : Option KnownIds → GlobalId → Option GlobalId
known_in None g = None
known_in (Some ids) g = known_id ids g

-- the new id of an entry of some part
abbrev pub new_id_of : List KnownIds → EntryId → Option GlobalId
new_id_of all id = known_in (slice_get all id.part) (global_id id)

-- there is a place for it
abbrev pub HasPlace : List KnownIds → EntryId → Type 0
HasPlace all id = (n : Counts) × (slice_get (map places all) id.part ≡ Some n) × HasGlobal n (global_id id)

-- whether two ids are of one entry
abbrev pub same_entry : EntryId → EntryId → Bool
same_entry d e = nat_eq d.part e.part && same_global (global_id d) (global_id e)

-- These entries have that new id, and all others what they had.
pub record IsFiledUnder (before : List KnownIds) (entries : List EntryId) (new : GlobalId) (now : List KnownIds) : Type 0 where
  pub room : map places now ≡ map places before
  pub each : (id : EntryId) → new_id_of now id ≡ (if list_any (same_entry id) entries then Some new else new_id_of before id)

-- each entry of the parts has the new id that stands where its symbol does
abbrev pub AreFiled : List Lists → List Symbol → List GlobalId → List KnownIds → Type 0
AreFiled parts symbols new all = (id : EntryId) (k : ℕ) → IsEntryId parts id → slice_get symbols k ≡ Some (key_in (modules parts) id) → new_id_of all id ≡ slice_get new k
