-- For `Known::of_items`, and all calls that are handed a `Known`: what a text defines, as it is gathered.
use Rattle.std.specs.Prelude.{◌≡◌, List, bytes_eq}
use Rattle.std.specs.Borrow.{Bor}
use Rattle.std.specs.List.{list_any}
use Rattle.ir_tables.specs.Table.{is_distinct}
use Rattle.ir_syntax.specs.View.{items_view}
use Rattle.module_arena.specs.Module.{Bytes}
use Rattle.name_rules.specs.Breaks.{known_in}
pub use Rattle.name_rules.specs.Breaks.{global_names}
use Rattle.name_rules.specs.ModuleOf.{structs_in}
use Rattle.name_rules.specs.TypeDemands.{Known, has_name}
use Rattle.type_judge.specs.Order.Measuring.{AreMeasured, structs_of}
use Rattle.type_judge.specs.declared.known.Known as the_known
use Rattle.type_judge.specs.declared.known.GlobalNames.{GlobalNames}

-- the keys are exactly these names
pub record AreNames (keys : List (Bor Bytes)) (names : List Bytes) : Type 0 where
  pub each : (name : Bytes) → list_any (λ (key : Bor Bytes). bytes_eq name key.now) keys ≡ has_name names name

-- these are the names, and it is told whether they are distinct
pub record AreGlobals (globals : GlobalNames) (all : List Bytes) : Type 0 where
  pub names : AreNames globals.names.keys all
  pub distinct : globals.distinct ≡ is_distinct bytes_eq all

-- what the items define
abbrev pub known_of : the_known.Known → Known
known_of gathered = known_in (items_view gathered.items.now)

-- what was gathered is what the items define
pub record KnownFacts (gathered : the_known.Known) : Type 0 where
  pub measured : AreMeasured gathered.structs
  pub structs : structs_of gathered.structs ≡ structs_in (items_view gathered.items.now)
  pub globals : AreGlobals gathered.globals (global_names (items_view gathered.items.now))

-- the same, in which no search looks
unfoldable pub IsKnown : the_known.Known → Type 0
IsKnown gathered = KnownFacts gathered
