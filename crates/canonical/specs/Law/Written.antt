-- For `pieces_are_tokens` and `tokens_are_items`: what canonical text can write, so that it is read back.
use Rattle.std.specs.Prelude.{◌≡◌, ℕ, zero, suc, ◌+◌, ◌-◌, ◌^◌, ◌<◌, ◌≤◌, true, List, [], ◌∷◌, ◌++◌, map, filter, Option, Some, None}
use Rattle.ir_base.specs.Name.{is_name}
use Rattle.ir_tables.specs.Flag.{flags, flag_code}
use Rattle.ir_tables.specs.declared.flag.Flag.{Flag}
use Rattle.ir_tables.specs.declared.opcode.Opcode.{Opcode}
use Rattle.ir_terminals.specs.PhraseRows.Row.{among}
use Rattle.ir_tables.specs.MayHave.{may_have}
use Rattle.ir_tables.specs.declared.opcode.Opcode.TheVariants as op
use Rattle.ir_tables.specs.declared.width.TheConstants.{WIDEST}
use Rattle.module_arena.specs.Forms.{is_binary, is_cast, is_constant_cast, is_constant_binary, has_constants, is_not_empty}
use Rattle.module_arena.specs.Module.{LocalName, Named, Numbered, Constant, Integer, Truth, Null, Undef, Poison, ZeroInitializer, Address, ByteString, Aggregate, ElementAddress, Cast, Binary, Constants, no_constants, more_constants, Value, Local, Known, Operand, Incoming, Operation, BinaryOperation, Compare, Convert, Select, Freeze, Phi, Load, Store, Alloca, GetElementPtr, Call, ExtractValue, InsertValue}
use Rattle.canonical.specs.declared.law.laws.TheConstants.{DIGIT_LIMIT}
use Rattle.type_table.specs.Tree.{Tree, int, ptr, void, array, struct, named, Trees, no_trees, more_trees}

-- each is a byte
abbrev pub AreBytes : List ℕ → Type 0
AreBytes [] = Unit {0}
AreBytes (b ∷ bs) = (b < 256) × AreBytes bs

-- at least one byte, and no zero among them
pub record IsNameText (name : List ℕ) : Type 0 where
  pub bytes : AreBytes name
  pub is : is_name name ≡ true

-- a local: a name that can be written, or a number
abbrev pub IsLocalText : LocalName → Type 0
IsLocalText (Named name) = IsNameText name
IsLocalText (Numbered n) = Unit {0}

-- the sums of the codes of some of these flags
abbrev pub sums : List Flag → List ℕ
sums [] = 0 ∷ []
sums (f ∷ fs) = sums fs ++ map (λ n. n + flag_code f) (sums fs)

-- a set of flags that the opcode may have
abbrev pub IsFlagSet : Opcode → ℕ → Type 0
IsFlagSet opcode set = among set (sums (filter (may_have opcode) flags)) ≡ true

-- inside one bracket, of those that may still be opened
abbrev pub Inside : ℕ → (ℕ → Type 0) → Type 0
Inside zero P = ⊥
Inside (suc depth) P = P depth

abbrev mutual
  -- a type with no more than so many brackets open at once
  pub IsTypeText : Tree → ℕ → Type 0
  IsTypeText (int width) depth = (1 ≤ width) × (width ≤ WIDEST)
  IsTypeText ptr depth = Unit {0}
  IsTypeText void depth = Unit {0}
  IsTypeText (array count element) depth = (count < 10 ^ DIGIT_LIMIT) × Inside depth (IsTypeText element)
  IsTypeText (struct packed fields) depth = Inside depth (AreTypeTexts fields)
  IsTypeText (named name) depth = IsNameText name

  -- each type
  pub AreTypeTexts : Trees → ℕ → Type 0
  AreTypeTexts no_trees depth = Unit {0}
  AreTypeTexts (more_trees t ts) depth = IsTypeText t depth × AreTypeTexts ts depth

-- a number that a constant of this type writes
abbrev pub IsNumberText : Tree → ℕ → Type 0
IsNumberText (int width) n = (n < 10 ^ DIGIT_LIMIT) × (2 ^ width - n < 10 ^ DIGIT_LIMIT)
IsNumberText _ n = (n < 10 ^ DIGIT_LIMIT) × (2 ^ WIDEST - n < 10 ^ DIGIT_LIMIT)

abbrev mutual
  -- a constant of this type with no more than so many brackets open at once, where types have no more than `nesting`
  pub IsConstantText : ℕ → Tree → Constant → ℕ → Type 0
  IsConstantText nesting ty (Integer n) depth = IsNumberText ty n
  IsConstantText nesting ty (Truth b) depth = Unit {0}
  IsConstantText nesting ty Null depth = Unit {0}
  IsConstantText nesting ty Undef depth = Unit {0}
  IsConstantText nesting ty Poison depth = Unit {0}
  IsConstantText nesting ty ZeroInitializer depth = Unit {0}
  IsConstantText nesting ty (Address name) depth = IsNameText name
  IsConstantText nesting ty (ByteString bytes) depth = AreBytes bytes
  IsConstantText nesting ty (Aggregate kind elements) depth = Inside depth (AreConstantTexts nesting elements)
  IsConstantText nesting ty (ElementAddress set source operands) depth =
      IsFlagSet op.GetElementPtr set × IsTypeText source nesting × (has_constants operands ≡ true) × Inside depth (AreConstantTexts nesting operands)
  IsConstantText nesting ty (Cast code from value to) depth =
      (is_constant_cast code ≡ true) × IsTypeText from nesting × IsTypeText to nesting × Inside depth (IsConstantText nesting from value)
  IsConstantText nesting ty (Binary code set left_type left right_type right) depth =
      (is_constant_binary code ≡ true) × IsFlagSet code set × IsTypeText left_type nesting × IsTypeText right_type nesting
      × Inside depth (λ d. IsConstantText nesting left_type left d × IsConstantText nesting right_type right d)

  -- each constant behind its type
  pub AreConstantTexts : ℕ → Constants → ℕ → Type 0
  AreConstantTexts nesting no_constants depth = Unit {0}
  AreConstantTexts nesting (more_constants ty c cs) depth = IsTypeText ty nesting × IsConstantText nesting ty c depth × AreConstantTexts nesting cs depth

-- a value at this type, and one with its type
abbrev pub IsValueText : ℕ → Tree → Value → Type 0
IsValueText nesting ty (Local name) = IsLocalText name
IsValueText nesting ty (Known c) = IsConstantText nesting ty c nesting

-- a value behind its type
abbrev pub IsOperandText : ℕ → Operand → Type 0
IsOperandText nesting o = IsTypeText o.ty nesting × IsValueText nesting o.ty o.value

-- each value behind its type
abbrev pub AreOperandTexts : ℕ → List Operand → Type 0
AreOperandTexts nesting [] = Unit {0}
AreOperandTexts nesting (o ∷ os) = IsOperandText nesting o × AreOperandTexts nesting os

-- each type
abbrev pub AreTypeListTexts : ℕ → List Tree → Type 0
AreTypeListTexts nesting [] = Unit {0}
AreTypeListTexts nesting (t ∷ ts) = IsTypeText t nesting × AreTypeListTexts nesting ts

-- numbers of no more digits than the limit
abbrev pub AreSmall : List ℕ → Type 0
AreSmall [] = Unit {0}
AreSmall (n ∷ ns) = (n < 10 ^ DIGIT_LIMIT) × AreSmall ns

-- an alignment, where there is one, of no more digits than the limit
abbrev pub IsAlignmentText : Option ℕ → Type 0
IsAlignmentText None = Unit {0}
IsAlignmentText (Some n) = n < 10 ^ DIGIT_LIMIT

-- the count of an alloca, where there is one
abbrev pub IsCountText : ℕ → Option Operand → Type 0
IsCountText nesting None = Unit {0}
IsCountText nesting (Some o) = IsOperandText nesting o

-- each entry of a phi, at its type
abbrev pub AreIncomingTexts : ℕ → Tree → List Incoming → Type 0
AreIncomingTexts nesting ty [] = Unit {0}
AreIncomingTexts nesting ty (i ∷ more) = IsValueText nesting ty i.value × IsLocalText i.block × AreIncomingTexts nesting ty more

-- the opcode of an operation
abbrev pub operation_opcode : Operation → Opcode
operation_opcode (BinaryOperation code set left right) = code
operation_opcode (Compare set predicate left right) = op.ICmp
operation_opcode (Convert code set value to) = code
operation_opcode (Select condition first second) = op.Select
operation_opcode (Freeze value) = op.Freeze
operation_opcode (Phi ty incoming) = op.Phi
operation_opcode (Load set ty address alignment) = op.Load
operation_opcode (Store set value address alignment) = op.Store
operation_opcode (Alloca ty count alignment) = op.Alloca
operation_opcode (GetElementPtr set source base indices) = op.GetElementPtr
operation_opcode (Call signature callee arguments) = op.Call
operation_opcode (ExtractValue aggregate indices) = op.ExtractValue
operation_opcode (InsertValue aggregate part indices) = op.InsertValue

-- what an instruction does
abbrev pub IsOperationText : ℕ → Operation → Type 0
IsOperationText nesting (BinaryOperation code set left right) =
    (is_binary code ≡ true) × IsFlagSet code set × IsOperandText nesting left × IsValueText nesting left.ty right
IsOperationText nesting (Compare set predicate left right) = IsFlagSet op.ICmp set × IsOperandText nesting left × IsValueText nesting left.ty right
IsOperationText nesting (Convert code set value to) = (is_cast code ≡ true) × IsFlagSet code set × IsOperandText nesting value × IsTypeText to nesting
IsOperationText nesting (Select condition first second) = IsOperandText nesting condition × IsOperandText nesting first × IsOperandText nesting second
IsOperationText nesting (Freeze value) = IsOperandText nesting value
IsOperationText nesting (Phi ty incoming) = IsTypeText ty nesting × (is_not_empty incoming ≡ true) × AreIncomingTexts nesting ty incoming
IsOperationText nesting (Load set ty address alignment) = IsFlagSet op.Load set × IsTypeText ty nesting × IsOperandText nesting address × IsAlignmentText alignment
IsOperationText nesting (Store set value address alignment) =
    IsFlagSet op.Store set × IsOperandText nesting value × IsOperandText nesting address × IsAlignmentText alignment
IsOperationText nesting (Alloca ty count alignment) = IsTypeText ty nesting × IsCountText nesting count × IsAlignmentText alignment
IsOperationText nesting (GetElementPtr set source base indices) =
    IsFlagSet op.GetElementPtr set
    × IsTypeText source nesting
    × IsOperandText nesting base
    × AreOperandTexts nesting indices
IsOperationText nesting (Call signature callee arguments) =
    IsTypeText signature.returns nesting × AreTypeListTexts nesting signature.parameters
    × IsValueText nesting ptr callee × AreOperandTexts nesting arguments
IsOperationText nesting (ExtractValue aggregate indices) = IsOperandText nesting aggregate × (is_not_empty indices ≡ true) × AreSmall indices
IsOperationText nesting (InsertValue aggregate part indices) =
    IsOperandText nesting aggregate × IsOperandText nesting part × (is_not_empty indices ≡ true) × AreSmall indices
