-- For `build_structs`, `declare_items`, `initialise_items`, `set_targets` and `items_without_a_break_are_buildable`: what
-- the entries of a module are built from.
use Rattle.std.specs.Prelude.{All, Option, Some, None}
use Rattle.ir_phrases.specs.Constants.Tree.{ConstantTree}
use Rattle.ir_syntax.specs.Tree.{BodyTree, OpaqueBody, PlainBody, PackedBody, ParameterTree, ItemTree, Struct, Variable, Alias, Declaration, Definition}
use Rattle.type_table.specs.Tree.{Structs}
use Rattle.module_arena.specs.Lists.{Lists}
use Rattle.name_rules.specs.Written.{type_in}
use Rattle.item_build.specs.Types.Fitting.{CanBe}
use Rattle.item_build.specs.Types.Holding.{CanHold, HasEntry}
use Rattle.item_build.specs.Types.Declarations.{CanAlias, IsShort}
use Rattle.item_build.specs.Buildable.Bodies.{CanBody}

module _ (structs : Structs) where
  -- the fields of a struct are within the limits
  abbrev pub CanStruct : BodyTree → Type 0
  CanStruct OpaqueBody = Unit {0}
  CanStruct (PlainBody parts) = All (λ t. CanBe structs (type_in t)) parts
  CanStruct (PackedBody parts) = All (λ t. CanBe structs (type_in t)) parts

  -- the types with which an item is declared are
  abbrev pub CanDeclare : ItemTree → Type 0
  CanDeclare (Struct name body) = CanStruct body
  CanDeclare (Variable variable) = CanBe structs (type_in variable.ty) × IsShort variable.alignment
  CanDeclare (Alias alias) = CanAlias structs alias.ty
  CanDeclare (Declaration place head parameters variadic) = CanBe structs (type_in head.returns) × All (λ t. CanBe structs (type_in t)) parameters
  CanDeclare (Definition place head parameters blocks) = CanBe structs (type_in head.returns) × All (λ (p : ParameterTree). CanBe structs (type_in p.0)) parameters
  CanDeclare _ = Unit {0}

  module _ (entries : Lists) where
    -- an initialiser can be held
    abbrev pub CanInitialise : Option ConstantTree → Type 0
    CanInitialise None = Unit {0}
    CanInitialise (Some constant) = CanHold structs entries constant

    -- what completes an item can be built, and what it names is there
    abbrev pub CanComplete : ItemTree → Type 0
    CanComplete (Variable variable) = CanInitialise variable.initialiser
    CanComplete (Alias alias) = HasEntry entries alias.target.name
    CanComplete (Definition place head parameters blocks) = CanBody structs entries parameters blocks
    CanComplete _ = Unit {0}
