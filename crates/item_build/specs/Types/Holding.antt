-- For `add_constant` of `Builder`, and `initialise`: which constants an arena can take.
use Rattle.std.specs.Prelude.{◌≡◌, ℕ, ◌^◌, ◌<◌, List, Some}
use Rattle.ir_tables.specs.declared.width.TheConstants.{WIDEST}
use Rattle.ir_phrases.specs.Constants.Tree.{ConstantTree, IntegerConstant, SimpleConstant, AddressConstant, BytesConstant, ListConstant, ElementAddress, Conversion, Arithmetic, ConstantTrees, no_constants, more_constants, TypedConstantTree}
use Rattle.type_table.specs.Tree.{Structs}
use Rattle.module_arena.specs.declared.entry.GlobalId.{GlobalId}
use Rattle.module_arena.specs.Lists.{Lists, no_lists, global_name}
use Rattle.name_rules.specs.Written.{type_in}
use Rattle.item_build.specs.Types.Fitting.{CanBe}

-- the variables, aliases and functions alone
abbrev pub entries : Lists → Lists
entries a = record no_lists { variables = a.variables; aliases = a.aliases; functions = a.functions }

-- an entry has that name
abbrev pub HasEntry : Lists → List ℕ → Type 0
HasEntry a name = (g : GlobalId) × (global_name a g ≡ Some name)

module _ (structs : Structs) (a : Lists) where
  abbrev mutual
    -- an integer has at most 128 bits, an entry is there, and types are within the limits
    pub CanHold : ConstantTree → Type 0
    CanHold (IntegerConstant written) = written.magnitude < 2 ^ WIDEST
    CanHold (SimpleConstant word place) = Unit {0}
    CanHold (AddressConstant name) = HasEntry a name.name
    CanHold (BytesConstant text) = Unit {0}
    CanHold (ListConstant place round elements) = AllCanHold elements
    CanHold (ElementAddress place flags source operands) = CanBe structs (type_in source) × AllCanHold operands
    CanHold (Conversion place opcode from value to) = (CanBe structs (type_in from) × CanHold value) × CanBe structs (type_in to)
    CanHold (Arithmetic place opcode flags left_type left right_type right) =
        (CanBe structs (type_in left_type) × CanHold left) × (CanBe structs (type_in right_type) × CanHold right)

    -- the same of several constants and their types
    pub AllCanHold : ConstantTrees → Type 0
    AllCanHold no_constants = Unit {0}
    AllCanHold (more_constants ty c cs) = (CanBe structs (type_in ty) × CanHold c) × AllCanHold cs

  -- a constant, and the type before it
  abbrev pub CanHoldTyped : TypedConstantTree → Type 0
  CanHoldTyped written = CanBe structs (type_in written.0) × CanHold written.1
