-- For `resolve` and `check_type`: what the types and constants that a text writes ask for.
use Rattle.std.specs.Prelude.{Bool, false, not, ◌&&◌, ◌||◌, nat_lt, bytes_eq, is_none, List, [], ◌∷◌, ◌++◌, Option}
use Rattle.std.specs.List.{list_any}
use Rattle.ir_terminals.specs.declared.values.Integer.{Integer}
use Rattle.ir_terminals.specs.declared.values.PlacedName.{PlacedName}
use Rattle.ir_phrases.specs.Constants.Tree.{TypeTree, IntegerType, PointerType, VoidType, ArrayType, StructType, NamedType, TypeTrees, no_types, more_types, types, ConstantTree, IntegerConstant, SimpleConstant, AddressConstant, BytesConstant, ListConstant, ElementAddress, Conversion, Arithmetic, ConstantTrees, no_constants, more_constants}
use Rattle.ir_syntax.specs.Tree.{BodyTree, OpaqueBody, PlainBody, PackedBody}
use Rattle.type_table.specs.declared.measure.Measure.{Measure}
use Rattle.type_table.specs.declared.measure.TheConstants.{SIZE_LIMIT}
use Rattle.type_table.specs.Tree.{Tree, Structs}
use Rattle.module_arena.specs.Module.{Bytes}
use Rattle.name_rules.specs.declared.fault.ResolveFault.TheVariants as faults
use Rattle.name_rules.specs.Spelled.{spelled_global, spelled_struct}
use Rattle.name_rules.specs.Written.{natural, type_in, bits_at}
use Rattle.name_rules.specs.Measured.{tree_measured, look_in, contains_itself, names_of}
use Rattle.name_rules.specs.Demand.{Demand, ask, is_new, integer_fits, is_length, is_large, nests, is_small}

-- what a text defines, at whichever place: its structs with their measures, and the names of its variables, aliases and
-- functions
pub record Known : Type 0 where
  pub structs : Structs
  pub measures : List (Option Measure)
  pub globals : List Bytes

-- the name is one of these
abbrev pub has_name : List Bytes → Bytes → Bool
has_name names name = list_any (λ n. bytes_eq n name) names

-- an array with so many elements, before any limit on its size, is past the limit on lengths
abbrev pub is_long : Integer → Bool
is_long count = nat_lt SIZE_LIMIT (natural count)

module _ (known : Known) where
  -- the measure of a struct
  abbrev pub struct_measured : Bytes → Option Measure
  struct_measured = look_in known.structs known.measures

  -- the measure of a type
  abbrev pub measured : TypeTree → Option Measure
  measured t = tree_measured struct_measured (type_in t)

  -- whether a type is past a limit but that on nesting, apart from those inside it
  abbrev pub is_past : TypeTree → Bool
  is_past (ArrayType place count element) = is_long count || is_large (measured (ArrayType place count element))
  is_past t = is_large (measured t)

  abbrev mutual
    -- whether a type, or one that is written inside it, is past such a limit
    pub has_past : TypeTree → Bool
    has_past (IntegerType place width) = false
    has_past (PointerType place) = false
    has_past (VoidType place) = false
    has_past (ArrayType place count element) = is_past (ArrayType place count element) || has_past element
    has_past (StructType place packed parts) = is_past (StructType place packed parts) || have_past parts
    has_past (NamedType name) = is_past (NamedType name)

    -- whether one of these has
    pub have_past : TypeTrees → Bool
    have_past no_types = false
    have_past (more_types t ts) = has_past t || have_past ts

  -- the struct is defined
  abbrev pub is_struct : PlacedName → Demand
  is_struct name = ask (has_name (names_of known.structs) name.name) (faults.UnknownName name.place (spelled_struct name.name))

  -- the variable, alias or function is there
  abbrev pub is_global : PlacedName → Demand
  is_global name = ask (has_name known.globals name.name) (faults.UnknownName name.place (spelled_global name.name))

  abbrev mutual
    -- what a type asks for, in the order of its tokens
    pub type_demands : TypeTree → List Demand
    type_demands (IntegerType place width) = []
    type_demands (PointerType place) = []
    type_demands (VoidType place) = []
    type_demands (ArrayType place count element) =
        nests place (measured (ArrayType place count element))
        ∷ is_small place (is_past (ArrayType place count element)) (has_past element)
        ∷ is_length count
        ∷ type_demands element
    type_demands (StructType place packed parts) =
        nests place (measured (StructType place packed parts))
        ∷ is_small place (is_past (StructType place packed parts)) (have_past parts)
        ∷ types_demands parts
    type_demands (NamedType name) =
        is_struct name
        ∷ nests name.place (struct_measured name.name)
        ∷ is_small name.place (is_large (struct_measured name.name)) false
        ∷ []

    -- what types ask for, one behind the other
    pub types_demands : TypeTrees → List Demand
    types_demands no_types = []
    types_demands (more_types t ts) = type_demands t ++ types_demands ts

  -- the types in the braces of a struct
  abbrev pub body_types : BodyTree → TypeTrees
  body_types OpaqueBody = no_types
  body_types (PlainBody parts) = types parts
  body_types (PackedBody parts) = types parts

  -- it does not contain itself; a struct that does has no measure
  abbrev pub ends : PlacedName → Demand
  ends name = ask (not (is_none (struct_measured name.name) && contains_itself known.structs name.name)) (faults.SelfContaining name.place)

  -- what a struct's type asks for
  abbrev pub struct_type_demands : PlacedName → BodyTree → List Demand
  struct_type_demands name body =
      nests name.place (struct_measured name.name)
      ∷ ends name
      ∷ is_small name.place (is_large (struct_measured name.name)) (have_past (body_types body))
      ∷ types_demands (body_types body)

  -- what a struct asks for, behind these
  abbrev pub struct_demands : List PlacedName → PlacedName → BodyTree → List Demand
  struct_demands before name body = is_new before name ++ struct_type_demands name body

  abbrev mutual
    -- what a constant asks for where it stands at that type
    pub constant_demands : Tree → ConstantTree → List Demand
    constant_demands t (IntegerConstant written) = integer_fits (bits_at t) written ∷ []
    constant_demands t (SimpleConstant word place) = []
    constant_demands t (AddressConstant name) = is_global name ∷ []
    constant_demands t (BytesConstant text) = []
    constant_demands t (ListConstant place round elements) = constants_demands elements
    constant_demands t (ElementAddress place flags source operands) = type_demands source ++ constants_demands operands
    constant_demands t (Conversion place opcode from value to) = type_demands from ++ (constant_demands (type_in from) value ++ type_demands to)
    constant_demands t (Arithmetic place opcode flags left_type left right_type right) =
        type_demands left_type ++ (constant_demands (type_in left_type) left ++ (type_demands right_type ++ constant_demands (type_in right_type) right))

    -- what constants ask for, each behind its type
    pub constants_demands : ConstantTrees → List Demand
    constants_demands no_constants = []
    constants_demands (more_constants ty c cs) = type_demands ty ++ (constant_demands (type_in ty) c ++ constants_demands cs)
