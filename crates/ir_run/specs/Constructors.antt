-- For `constructors`: the functions that are called before main, as the code has them.
use Rattle.std.specs.Prelude.{◌≡◌, List, [], map, Option, Some, None}
use Rattle.std.specs.List.{All}
use Rattle.module_arena.specs.declared.constant.Const.{Const}
use Rattle.module_arena.specs.declared.constant.Const.TheVariants.{Aggregate}
use Rattle.module_arena.specs.declared.constant.TypedConst.{TypedConst}
use Rattle.module_arena.specs.Lists.{Lists}
use Rattle.module_arena.specs.View.{module_of}
use Rattle.type_table.specs.Types.{tree}
use Rattle.linkage_rules.specs.Contents.Contents.{ContentPiece, pieces}
use Rattle.run_initial.specs.Constants.Sound.{IsPart, constant_of, names_of}
use Rattle.run_names.specs.Told.{alone}
use Rattle.run_rules.specs.Constant.{constant_value}
use Rattle.run_rules.specs.Plan as plans
use Rattle.run_rules.specs.Plan.{constructor_of, constructors_symbol}
use Rattle.ir_run.specs.declared.order.Constructor.{Constructor}

-- what is meant
abbrev pub constructor_seen : Constructor → plans.Constructor
constructor_seen c = (c.priority, c.address)

-- a constant of the module, with its type, as a piece of what a variable holds
abbrev pub piece_of : Lists → TypedConst → ContentPiece
piece_of a c = record { part = 0; ty = tree a.table c.ty; value = constant_of a c.value }

-- the constructor that such a constant is, if any
abbrev pub constructor_at : Lists → TypedConst → Option plans.Constructor
constructor_at a c = constructor_of (constant_value (names_of a) (tree a.table c.ty) (constant_of a c.value))

-- the elements of a list in brackets
abbrev pub elements_of : Const → Option (List TypedConst)
elements_of (Aggregate round elements) = Some elements
elements_of _ = None

-- the elements of the list of constructors are these, constants of the module, or there is no such list
abbrev pub AreElements : Lists → Option (List TypedConst) → Type 0
AreElements a None = pieces (alone (module_of a)) constructors_symbol ≡ []
AreElements a (Some elements) = (map (piece_of a) elements ≡ pieces (alone (module_of a)) constructors_symbol) × All (IsPart a) elements
