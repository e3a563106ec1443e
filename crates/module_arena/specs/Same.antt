-- For `host_row_fits` and `Checked::seal`: when two names, types, constants or values are the same: equal as they are written.
use Rattle.std.specs.Prelude.{◌≡◌, ℕ, Bool, true, false, ◌&&◌, ◌==◌, bytes_eq, List, Some, slice_get}
use Rattle.std.specs.Bool.{beq}
use Rattle.std.specs.List.{list_any}
use Rattle.ir_tables.specs.declared.opcode.Opcode.{Opcode}
use Rattle.ir_tables.specs.Opcode.{opcode_code}
use Rattle.type_table.specs.Tree.{Tree, int, ptr, void, array, struct, named, Trees, no_trees, more_trees}
use Rattle.module_arena.specs.Module.{LocalName, Brackets, Constant, Constants, Value}
use Rattle.module_arena.specs.Module.LocalName.{Named, Numbered}
use Rattle.module_arena.specs.Module.Brackets.{Square, Braces, Packed}
use Rattle.module_arena.specs.Module.Constant.{Integer, Truth, Null, Undef, Poison, ZeroInitializer, Address, ByteString, Aggregate, ElementAddress, Cast, Binary}
use Rattle.module_arena.specs.Module.Constants.{no_constants, more_constants}
use Rattle.module_arena.specs.Module.Value.{Local, Known}

-- one name, or one number
abbrev pub same_local : LocalName → LocalName → Bool
same_local (Named a) (Named b) = bytes_eq a b
same_local (Numbered a) (Numbered b) = a == b
same_local _ _ = false

-- whether the name is in a list
abbrev pub has_local : List LocalName → LocalName → Bool
has_local names name = list_any (λ n. same_local n name) names

-- no name stands at two places
abbrev pub IsApart : List LocalName → Type 0
IsApart names = (i j : ℕ) (name : LocalName) → slice_get names i ≡ Some name → slice_get names j ≡ Some name → i ≡ j

abbrev mutual
  -- one type, struct by struct name
  pub same_type : Tree → Tree → Bool
  same_type (int a) (int b) = a == b
  same_type ptr ptr = true
  same_type void void = true
  same_type (array n a) (array m b) = (n == m) && same_type a b
  same_type (struct p as_) (struct q bs) = beq p q && same_types as_ bs
  same_type (named a) (named b) = bytes_eq a b
  same_type _ _ = false

  -- types, one after another
  pub same_types : Trees → Trees → Bool
  same_types no_trees no_trees = true
  same_types (more_trees a as_) (more_trees b bs) = same_type a b && same_types as_ bs
  same_types _ _ = false

-- one pair of brackets
abbrev pub same_brackets : Brackets → Brackets → Bool
same_brackets Square Square = true
same_brackets Braces Braces = true
same_brackets Packed Packed = true
same_brackets _ _ = false

-- one opcode
abbrev pub same_opcode : Opcode → Opcode → Bool
same_opcode a b = opcode_code a == opcode_code b

abbrev mutual
  -- one constant, as it is written
  pub same_constant : Constant → Constant → Bool
  same_constant (Integer a) (Integer b) = a == b
  same_constant (Truth a) (Truth b) = beq a b
  same_constant Null Null = true
  same_constant Undef Undef = true
  same_constant Poison Poison = true
  same_constant ZeroInitializer ZeroInitializer = true
  same_constant (Address a) (Address b) = bytes_eq a b
  same_constant (ByteString a) (ByteString b) = bytes_eq a b
  same_constant (Aggregate p as_) (Aggregate q bs) = same_brackets p q && same_constants as_ bs
  same_constant (ElementAddress f s as_) (ElementAddress g t bs) = (f == g) && (same_type s t && same_constants as_ bs)
  same_constant (Cast o s a t) (Cast p u b v) = same_opcode o p && (same_type s u && (same_constant a b && same_type t v))
  same_constant (Binary o f s a t b) (Binary p g u c v d) =
      same_opcode o p && ((f == g) && (same_type s u && (same_constant a c && (same_type t v && same_constant b d))))
  same_constant _ _ = false

  -- constants with their types, one after another
  pub same_constants : Constants → Constants → Bool
  same_constants no_constants no_constants = true
  same_constants (more_constants t a as_) (more_constants u b bs) = same_type t u && (same_constant a b && same_constants as_ bs)
  same_constants _ _ = false

-- one local, or one constant
abbrev pub same_value : Value → Value → Bool
same_value (Local a) (Local b) = same_local a b
same_value (Known a) (Known b) = same_constant a b
same_value _ _ = false
