-- For `read_items`: the forms of the constants of a text: opcodes, flags and parts as their phrases have them.
use Rattle.std.specs.Prelude.{◌≡◌, ℕ, ◌≤◌, true, List, [], ◌∷◌}
use Rattle.ir_tables.specs.declared.opcode.Opcode.{Opcode}
use Rattle.ir_tables.specs.declared.opcode.Opcode.TheVariants as op
use Rattle.ir_tables.specs.declared.flag.Flag.{Flag}
use Rattle.ir_tables.specs.Flags.{has_flag}
use Rattle.ir_tables.specs.MayHave.{may_have}
pub use Rattle.ir_tables.specs.OpcodeGroups.{is_constant_binary, is_constant_cast}
use Rattle.ir_phrases.specs.Constants.Tree.{ConstantTree, IntegerConstant, SimpleConstant, AddressConstant, BytesConstant, ListConstant, ElementAddress, Conversion, Arithmetic, ConstantTrees, no_constants, more_constants, TypedConstantTree, ValueTree, LocalValue, ConstantValue, TypedValueTree}

-- each of the list is so
abbrev pub AllAre : {A : Type 0} → (A → Type 0) → List A → Type 0
AllAre P [] = Unit {0}
AllAre P (x ∷ xs) = P x × AllAre P xs

-- there is one
abbrev pub IsNotEmpty : {A : Type 0} → List A → Type 0
IsNotEmpty [] = ⊥
IsNotEmpty (x ∷ xs) = Unit {0}

-- a set of flags that the opcode may have
pub record AreFlagsOf (opcode : Opcode) (set : ℕ) : Type 0 where
  pub bound : set ≤ 511
  pub each : (f : Flag) → has_flag set f ≡ true → may_have opcode f ≡ true

-- the list has one
abbrev pub HasConstant : ConstantTrees → Type 0
HasConstant no_constants = ⊥
HasConstant (more_constants t c cs) = Unit {0}

abbrev mutual
  -- the constant, and each constant in it, is as its phrase has it
  pub IsFormed : ConstantTree → Type 0
  IsFormed (IntegerConstant integer) = Unit {0}
  IsFormed (SimpleConstant word place) = Unit {0}
  IsFormed (AddressConstant name) = Unit {0}
  IsFormed (BytesConstant text) = Unit {0}
  IsFormed (ListConstant place round elements) = AreFormed elements
  IsFormed (ElementAddress place flags source operands) = AreFlagsOf op.GetElementPtr flags × HasConstant operands × AreFormed operands
  IsFormed (Conversion place opcode from value to) = (is_constant_cast opcode ≡ true) × IsFormed value
  IsFormed (Arithmetic place opcode flags left_type left right_type right) =
      (is_constant_binary opcode ≡ true) × AreFlagsOf opcode flags × IsFormed left × IsFormed right

  -- the same of several constants
  pub AreFormed : ConstantTrees → Type 0
  AreFormed no_constants = Unit {0}
  AreFormed (more_constants t c cs) = IsFormed c × AreFormed cs

-- a constant with its type has its phrase's form
abbrev pub IsTypedFormed : TypedConstantTree → Type 0
IsTypedFormed typed = IsFormed typed.1

-- a value has its phrase's form
abbrev pub IsValueFormed : ValueTree → Type 0
IsValueFormed (LocalValue name) = Unit {0}
IsValueFormed (ConstantValue constant) = IsFormed constant

-- a value with its type has its phrase's form
abbrev pub IsOperandFormed : TypedValueTree → Type 0
IsOperandFormed typed = IsValueFormed typed.1
