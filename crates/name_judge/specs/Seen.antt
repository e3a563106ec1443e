-- Says how the code reads: what has stood in a text so far.
use Rattle.std.specs.Prelude.{◌≡◌, Bool, false, List, Option, Some, None, filter_map}
use Rattle.ir_base.specs.declared.place.Place.{Place}
use Rattle.ir_terminals.specs.declared.values.PlacedName.{PlacedName}
use Rattle.ir_syntax.specs.Tree.{ItemTree}
use Rattle.module_arena.specs.Module.{Bytes}
use Rattle.type_table.specs.Names.Entries.{value_of}
use Rattle.name_rules.specs.Demand.{place_of_name}
use Rattle.name_rules.specs.Breaks.{struct_name, global_name, source_place, layout_place, triple_place}
use Rattle.name_rules.specs.ModuleOf.{first_of}
use Rattle.name_judge.specs.declared.seen.Seen.{Seen}

-- the table has the place of the first of these names that is spelled so
pub record AreFirst (table : List (Bytes × Place)) (names : List PlacedName) : Type 0 where
  pub each : (name : Bytes) → value_of table name ≡ place_of_name names name

-- this is what stands in the items so far
pub record IsSeen (seen : Seen) (before : List ItemTree) : Type 0 where
  pub source : seen.source ≡ first_of (filter_map source_place before)
  pub layout : seen.layout ≡ first_of (filter_map layout_place before)
  pub triple : seen.triple ≡ first_of (filter_map triple_place before)
  pub structs : AreFirst seen.structs (filter_map struct_name before)

-- the place of the first of these that is called so
abbrev pub place_among : List PlacedName → Option PlacedName → Option Place
place_among names None = None
place_among names (Some name) = place_of_name names name.name

-- the place of the first global among these with the name of the item
abbrev pub earlier_of : List ItemTree → ItemTree → Option Place
earlier_of before item = place_among (filter_map global_name before) (global_name item)

-- where two globals of the text may have the same name, the table has the place of the first of each among these
pub record AreKept (distinct : Bool) (table : List (Bytes × Place)) (before : List ItemTree) : Type 0 where
  pub each : distinct ≡ false → AreFirst table (filter_map global_name before)
