-- For `written_number`, and how the code reads: what is known of a constant from what is known of the constants in it, so that each constant of a
-- module is looked at once.
use Rattle.std.specs.Prelude.{ℕ, Bool, true, false, not, ◌&&◌, ◌==◌, nat_lt, List, [], ◌∷◌, length, Option, Some, None}
use Rattle.std.specs.List.{list_all}
use Rattle.type_table.specs.Tree.{Tree, void, Trees, no_trees, more_trees, Structs}
use Rattle.type_table.specs.Types.{trees}
use Rattle.module_arena.specs.declared.constant.Const.{Const}
use Rattle.module_arena.specs.declared.constant.Const.TheVariants as const
use Rattle.module_arena.specs.declared.constant.TypedConst.{TypedConst}
use Rattle.module_arena.specs.Constants.{Typed, Index, Expected, each, these, as_written, nothing, is_bytes_of, expected, is_cast_between, written_number, indices_fit, element_operands_fit, fits}
use Rattle.module_arena.specs.EntryRules.{is_only_called, takes_no_intrinsic, constant_types, types_written_suit, constant_types_suit}
use Rattle.module_arena.specs.Lists.{Lists}
use Rattle.module_arena.specs.Module.{Brackets, Constant, Constants, Module}
use Rattle.module_arena.specs.Module.Brackets.{Square, Braces, Packed}
use Rattle.module_arena.specs.Module.Constant.{Integer, Truth, Null, Undef, Poison, ZeroInitializer, Address, ByteString, Aggregate, ElementAddress, Cast, Binary}
use Rattle.module_arena.specs.Module.Constants.{no_constants, more_constants}
use Rattle.module_arena.specs.Same.{same_type}
use Rattle.module_arena.specs.TypeTests.{is_integer, is_integer_of, is_pointer, opened}
use Rattle.module_arena.specs.View.{type_at, constant_at, constants_of, module_of}
use Rattle.entry_verify.specs.declared.constants.constants.ConstFact.{ConstFact}

-- ---- the constants right in a constant

-- with the types that are written before them
abbrev pub typed_list : Constants → List Typed
typed_list no_constants = []
typed_list (more_constants t c cs) = (t, c) ∷ typed_list cs

-- the parts of a list or an expression
abbrev pub parts_in : Constant → List Typed
parts_in (Aggregate round elements) = typed_list elements
parts_in (ElementAddress flags source operands) = typed_list operands
parts_in (Cast opcode from value to) = (from, value) ∷ []
parts_in (Binary opcode flags a left b right) = (a, left) ∷ (b, right) ∷ []
parts_in _ = []

-- ---- what a constant fits

-- a width that is there, and below another
abbrev pub is_narrower : Option ℕ → Option ℕ → Bool
is_narrower None other = false
is_narrower (Some width) None = false
is_narrower (Some width) (Some other) = nat_lt width other

-- these types, one after the other
abbrev pub are_types : Trees → List Tree → Bool
are_types no_trees [] = true
are_types no_trees (u ∷ us) = false
are_types (more_trees t ts) [] = false
are_types (more_trees t ts) (u ∷ us) = same_type t u && are_types ts us

-- a list has so many parts, of these types
abbrev pub have_types : Expected → List Tree → Bool
have_types (each n t) us = (n == length us) && list_all (same_type t) us
have_types (these ts) us = are_types ts us
have_types as_written us = true
have_types nothing us = false

-- the brackets are square
abbrev pub is_square : Brackets → Bool
is_square Square = true
is_square _ = false

-- the brackets are those of a struct that is packed or not
abbrev pub are_brackets_of : Brackets → (packed : Bool) → Bool
are_brackets_of Square packed = false
are_brackets_of Braces packed = not packed
are_brackets_of Packed packed = packed

-- the constant, without what is in it, fits the type
abbrev pub fits_outside : Structs → Tree → Constant → Bool
fits_outside structs t (Integer n) = is_integer t
fits_outside structs t (Truth truth) = is_integer_of 1 t
fits_outside structs t Null = is_pointer t
fits_outside structs t Undef = true
fits_outside structs t Poison = true
fits_outside structs t ZeroInitializer = true
fits_outside structs t (Address name) = is_pointer t
fits_outside structs t (ByteString bytes) = is_bytes_of (length bytes) t
fits_outside structs t (Aggregate round elements) = have_types (expected round (opened structs t)) (constant_types elements)
fits_outside structs t (ElementAddress flags source operands) = is_pointer t
fits_outside structs t (Cast opcode from value to) = same_type t to
fits_outside structs t (Binary opcode flags a left b right) = is_integer t && (same_type t a && same_type t b)

-- the operands of an expression are such as it works on
abbrev pub own_operands_fit : Structs → Constant → Bool
own_operands_fit structs (ElementAddress flags source operands) = element_operands_fit structs source operands
own_operands_fit structs (Cast opcode from value to) = is_cast_between opcode from to
own_operands_fit structs _ = true

-- what is in a constant fits the types that are written for it
abbrev pub fits_within : Structs → Constant → Bool
fits_within structs c = own_operands_fit structs c && list_all (λ p. fits structs p.0 p.1) (parts_in c)

-- ---- what is known of a constant

-- the constant itself is no address of an intrinsic
abbrev pub own_address_passes : Module → Constant → Bool
own_address_passes m (Address name) = not (is_only_called m name)
own_address_passes m _ = true

-- of one in which there is nothing to fail
abbrev pub all_pass : ConstFact
all_pass = record { takes_no_intrinsic = true; types_suit = true; parts_fit = true }

-- what holds of both
abbrev pub both_constant_facts : ConstFact → ConstFact → ConstFact
both_constant_facts f g = record {
  takes_no_intrinsic = f.takes_no_intrinsic && g.takes_no_intrinsic;
  types_suit = f.types_suit && g.types_suit;
  parts_fit = f.parts_fit && g.parts_fit;
}

-- of a constant at whatever type
abbrev pub const_fact : Module → Constant → ConstFact
const_fact m c = record {
  takes_no_intrinsic = takes_no_intrinsic m void c;
  types_suit = constant_types_suit m.structs void c;
  parts_fit = fits_within m.structs c;
}

-- of a constant at the type that is written before it
abbrev pub part_fact : Module → Typed → ConstFact
part_fact m p = record {
  takes_no_intrinsic = takes_no_intrinsic m void p.1;
  types_suit = constant_types_suit m.structs void p.1;
  parts_fit = fits m.structs p.0 p.1;
}

-- of a constant without what is in it
abbrev pub own_fact : Module → Constant → ConstFact
own_fact m c = record {
  takes_no_intrinsic = own_address_passes m c;
  types_suit = types_written_suit m.structs (void, c);
  parts_fit = own_operands_fit m.structs c;
}

-- ---- by ids

-- a constant with its type
abbrev pub typed_at : Lists → TypedConst → Typed
typed_at a x = (type_at (trees a.table) x.ty, constant_at (constants_of a) x.value)

-- what is known of it
abbrev pub part_fact_at : Lists → TypedConst → ConstFact
part_fact_at a x = part_fact (module_of a) (typed_at a x)

-- the number that a constant of the code writes
abbrev pub written_in : Const → Option ℕ
written_in (const.Integer number) = Some number
written_in _ = None

-- a constant as an index
abbrev pub index_at : Lists → TypedConst → Index
index_at a x = record { ty = type_at (trees a.table) x.ty; number = written_number (constant_at (constants_of a) x.value) }

-- a base that is `ptr`, and indices that fit the source type
abbrev pub are_element_operands : Structs → Tree → List Index → Bool
are_element_operands structs source [] = false
are_element_operands structs source (base ∷ indices) = is_pointer base.ty && indices_fit structs source indices
