-- For `Checked::seal`: what is asked of constants, and of the operands that constant expressions share with instructions.
use Rattle.std.specs.Prelude.{ℕ, ◌-◌, Bool, true, false, ◌&&◌, ◌==◌, nat_lt, List, [], ◌∷◌, ◌++◌, length, Option, Some, None, option_and_then, if◌then◌else◌}
use Rattle.std.specs.List.{list_all}
use Rattle.ir_tables.specs.declared.opcode.Opcode.{Opcode}
use Rattle.ir_tables.specs.declared.opcode.Opcode.TheVariants.{Trunc, ZExt, SExt, PtrToInt, IntToPtr}
use Rattle.type_table.specs.Tree.{Tree, int, ptr, array, struct, Trees, no_trees, more_trees, Structs}
use Rattle.module_arena.specs.Module.{Bytes, Brackets, Constant, Constants}
use Rattle.module_arena.specs.Module.Brackets.{Square, Braces, Packed}
use Rattle.module_arena.specs.Module.Constant.{Integer, Truth, Null, Undef, Poison, ZeroInitializer, Address, ByteString, Aggregate, ElementAddress, Cast, Binary}
use Rattle.module_arena.specs.Module.Constants.{no_constants, more_constants}
use Rattle.module_arena.specs.Same.{same_type}
use Rattle.module_arena.specs.TypeTests.{is_integer, is_integer_of, is_pointer, opened, field_type, is_type}

-- a constant, and the type that is written for it
abbrev pub Typed : Type 0
Typed = Tree × Constant

-- these constants with their types, one behind the other
abbrev pub constants_listed : List (Tree × Constant) → Constants
constants_listed [] = no_constants
constants_listed (c ∷ cs) = more_constants c.0 c.1 (constants_listed cs)

abbrev mutual
  -- the constant and all constants within it, at any depth, from left to right
  pub constants_in : Tree → Constant → List Typed
  constants_in t (Aggregate brackets elements) = (t, Aggregate brackets elements) ∷ constants_of elements
  constants_in t (ElementAddress flags source operands) = (t, ElementAddress flags source operands) ∷ constants_of operands
  constants_in t (Cast opcode from value to) = (t, Cast opcode from value to) ∷ constants_in from value
  constants_in t (Binary opcode flags a left b right) = (t, Binary opcode flags a left b right) ∷ (constants_in a left ++ constants_in b right)
  constants_in t c = (t, c) ∷ []

  -- the same of several constants, each with its type
  pub constants_of : Constants → List Typed
  constants_of no_constants = []
  constants_of (more_constants t c cs) = constants_in t c ++ constants_of cs

-- the names of variables, aliases and functions that a constant is
abbrev pub address_in : Typed → List Bytes
address_in (t, Address name) = name ∷ []
address_in (t, _) = []

-- a cast between types that it is for: `trunc` narrows and `zext` and `sext` widen integers, `ptrtoint` goes from ptr to
-- an integer, and `inttoptr` the other way
abbrev pub is_cast_between : Opcode → Tree → Tree → Bool
is_cast_between Trunc (int from) (int to) = nat_lt to from
is_cast_between ZExt (int from) (int to) = nat_lt from to
is_cast_between SExt (int from) (int to) = nat_lt from to
is_cast_between PtrToInt ptr (int to) = true
is_cast_between IntToPtr (int from) ptr = true
is_cast_between _ _ _ = false

-- an index of getelementptr: its type, and its number where that is written
pub record Index : Type 0 where
  pub ty : Tree
  pub number : Option ℕ

-- the number that a constant writes
abbrev pub written_number : Constant → Option ℕ
written_number (Integer n) = Some n
written_number _ = None

-- the type of the part that an index leads to: any element of an array, or the field of that number
abbrev pub indexed : Tree → Index → Option Tree
indexed (array n t) index = Some t
indexed (struct packed ts) index = if is_integer_of 32 index.ty then option_and_then (field_type ts) index.number else None
indexed _ index = None

-- each index leads to a part of what the index before it led to
abbrev pub leads_to_part : Structs → Tree → List Index → Bool
leads_to_part structs t [] = true
leads_to_part structs t (i ∷ is) = is_type (λ part. leads_to_part structs part is) (indexed (opened structs t) i)

-- the first index steps over whole values of the source type, the others lead into one
abbrev pub indices_fit : Structs → Tree → List Index → Bool
indices_fit structs source [] = true
indices_fit structs source (first ∷ others) = list_all (λ i. is_integer i.ty) (first ∷ others) && leads_to_part structs source others

-- the indices of a constant getelementptr
abbrev pub index_constants : Constants → List Index
index_constants no_constants = []
index_constants (more_constants t c cs) = record { ty = t; number = written_number c } ∷ index_constants cs

-- the base and the indices of a constant getelementptr
abbrev pub element_operands_fit : Structs → Tree → Constants → Bool
element_operands_fit structs source no_constants = false
element_operands_fit structs source (more_constants t base indices) = is_pointer t && indices_fit structs source (index_constants indices)

-- what the parts of a list are asked to be: so many of one type, one of each of these types, or of the types written
pub data Expected : Type 0 where
  each : ℕ → Tree → Expected
  these : Trees → Expected
  as_written : Expected
  nothing : Expected

-- what a list in those brackets has as its parts, at a type whose name is opened
abbrev pub expected : Brackets → Tree → Expected
expected Square (array n t) = each n t
expected Braces (struct false ts) = these ts
expected Packed (struct true ts) = these ts
expected _ _ = nothing

-- a byte string of that length is an array of so many i8
abbrev pub is_bytes_of : ℕ → Tree → Bool
is_bytes_of length (array n t) = (n == length) && is_integer_of 8 t
is_bytes_of length _ = false

abbrev mutual
  -- the constant can stand where that type is written
  pub fits : Structs → Tree → Constant → Bool
  fits structs t (Integer n) = is_integer t
  fits structs t (Truth truth) = is_integer_of 1 t
  fits structs t Null = is_pointer t
  fits structs t Undef = true
  fits structs t Poison = true
  fits structs t ZeroInitializer = true
  fits structs t (Address name) = is_pointer t
  fits structs t (ByteString bytes) = is_bytes_of (length bytes) t
  fits structs t (Aggregate brackets elements) = parts_fit structs (expected brackets (opened structs t)) elements
  fits structs t (ElementAddress flags source operands) = is_pointer t && (element_operands_fit structs source operands && parts_fit structs as_written operands)
  fits structs t (Cast opcode from value to) = same_type t to && (is_cast_between opcode from to && fits structs from value)
  fits structs t (Binary opcode flags a left b right) =
      is_integer t && (same_type t a && (same_type t b && (fits structs a left && fits structs b right)))

  -- the constants are as many as are expected, each of its type, and fit
  pub parts_fit : Structs → Expected → Constants → Bool
  parts_fit structs (each n t) no_constants = n == 0
  parts_fit structs (each n t) (more_constants u c cs) = nat_lt 0 n && (same_type t u && (fits structs u c && parts_fit structs (each (n - 1) t) cs))
  parts_fit structs (these no_trees) no_constants = true
  parts_fit structs (these (more_trees t ts)) (more_constants u c cs) = same_type t u && (fits structs u c && parts_fit structs (these ts) cs)
  parts_fit structs as_written no_constants = true
  parts_fit structs as_written (more_constants u c cs) = fits structs u c && parts_fit structs as_written cs
  parts_fit structs _ _ = false

-- a constant that is a pointer: some address, whatever it is made of
abbrev pub is_pointer_constant : Constant → Bool
is_pointer_constant Null = true
is_pointer_constant Undef = true
is_pointer_constant Poison = true
is_pointer_constant ZeroInitializer = true
is_pointer_constant (Address name) = true
is_pointer_constant (ElementAddress flags source operands) = true
is_pointer_constant (Cast opcode from value to) = is_pointer to
is_pointer_constant _ = false
