-- For `equal_look_ups_give_equal_runs`: what a constant is, leaf by leaf (LangRef, "Constants"). It depends on what the names in it
-- mean in its part, and on nothing that a run changes: a variable stays where it was placed.
use Rattle.std.specs.Prelude.{ℕ, Bool, true, false, List, [], ◌∷◌, ◌++◌, map, Option, unwrap_or, Result, Ok, Err}
use Rattle.ir_tables.specs.declared.flag.Flag.TheVariants.{Inbounds}
use Rattle.ir_tables.specs.Flags.{has_flag}
use Rattle.ir_tables.specs.declared.undefined_kind.UndefinedKind.{UndefinedKind}
use Rattle.ir_eval.specs.declared.value.Pointer.{Pointer}
use Rattle.ir_eval.specs.declared.value.Scalar.{Scalar}
use Rattle.ir_eval.specs.declared.value.Scalar.TheVariants as scalar
use Rattle.ir_eval.specs.Operators.{binary_of}
use Rattle.ir_eval.specs.Cast.{cast_of, pointer_at}
use Rattle.module_arena.specs.Module.{Bytes, Constant, Integer, Truth, Null, Undef, Poison, ZeroInitializer, Address, ByteString, Aggregate, ElementAddress, Cast, Binary, Constants, no_constants, more_constants}
use Rattle.type_table.specs.Shape.{Shape, shape, void_leaf}
use Rattle.type_table.specs.Tree.{Tree, Structs}
use Rattle.run_rules.specs.Action.{Known}
use Rattle.run_rules.specs.Displace.{TermIndex, displaced, known, reach_of, terms_of}
use Rattle.run_rules.specs.Leaves.{zeros, poisons, width}

-- what the names of a part mean: the bodies of its structs, the addresses of its globals; and the bounds of variables
pub record Names : Type 0 where
  pub structs : Structs
  pub address : Bytes → Scalar
  pub bounds : Pointer → Option (ℕ × ℕ)

-- a type with its struct names replaced; every type of a valid module has a shape
abbrev pub shape_of : Names → Tree → Shape
shape_of names t = unwrap_or (shape names.structs t) void_leaf

-- the width of an integer type
abbrev pub width_of : Names → Tree → ℕ
width_of names t = width (shape_of names t)

-- the one leaf of a scalar
abbrev pub one_leaf : List Scalar → Scalar
one_leaf [] = scalar.Poison
one_leaf (leaf ∷ leaves) = leaf

-- add, sub and xor are never undefined
abbrev pub or_poison : Result Scalar UndefinedKind → Scalar
or_poison (Ok leaf) = leaf
or_poison (Err kind) = scalar.Poison

-- a constant getelementptr, whose first operand is the base
abbrev pub element_address : Names → Bool → Shape → List TermIndex → Scalar
element_address names inbounds source [] = scalar.Poison
element_address names inbounds source (base ∷ indices) = displaced names.bounds inbounds (known base.origin) (reach_of known (terms_of source indices))

module _ (names : Names) where
  abbrev mutual
    -- the leaves of a constant of that type
    pub constant_value : Tree → Constant → List Scalar
    constant_value t (Integer n) = scalar.Int n ∷ []
    constant_value t (Truth true) = scalar.Int 1 ∷ []
    constant_value t (Truth false) = scalar.Int 0 ∷ []
    constant_value t Null = scalar.Ptr (pointer_at 0) ∷ []
    constant_value t Undef = zeros (shape_of names t)
    constant_value t Poison = poisons (shape_of names t)
    constant_value t ZeroInitializer = zeros (shape_of names t)
    constant_value t (Address global) = names.address global ∷ []
    constant_value t (ByteString bytes) = map scalar.Int bytes
    constant_value t (Aggregate b elements) = constant_values elements
    constant_value t (ElementAddress flags source operands) =
        element_address names (has_flag flags Inbounds) (shape_of names source) (constant_indices operands) ∷ []
    constant_value t (Cast opcode from value to) = cast_of opcode 0 (width_of names from) (width_of names to) (one_leaf (constant_value from value)) ∷ []
    constant_value t (Binary opcode flags left_type left right_type right) =
        or_poison (binary_of opcode flags (width_of names left_type) (one_leaf (constant_value left_type left)) (one_leaf (constant_value right_type right))) ∷ []

    -- the leaves of constants one behind the other
    pub constant_values : Constants → List Scalar
    constant_values no_constants = []
    constant_values (more_constants t c cs) = constant_value t c ++ constant_values cs

    -- constants as indices of a getelementptr
    pub constant_indices : Constants → List TermIndex
    constant_indices no_constants = []
    constant_indices (more_constants t c cs) = record { origin = Known (one_leaf (constant_value t c)); width = width_of names t } ∷ constant_indices cs
