-- For `put_constant`, `put_value`, `put_instruction` and `put_ending` of the writers of records: what an instruction or an end must be so that
-- its operands are those of its layout. It asks less than that they are read back: integers have room in their operands, alignments have
-- codes, and operands whose types no record says have the types of their places.
use Rattle.std.specs.Prelude.{◌≡◌, ℕ, ◌<◌, ◌^◌, nat_lt, Bool, true, false, List, [], ◌∷◌, Option, All, ⊤}
use Rattle.ir_tables.specs.declared.width.TheConstants.{WIDEST}
use Rattle.type_table.specs.Tree.{Tree, int, ptr, void, array, struct, named}
use Rattle.module_arena.specs.Module.{LocalName, Constant, Integer, Truth, Null, Undef, Poison, ZeroInitializer, Address, ByteString, Aggregate, ElementAddress, Cast, Binary, Constants, no_constants, more_constants, Value, Local, Known, Operand, Operation, BinaryOperation, Compare, Convert, Select, Freeze, Phi, Load, Store, Alloca, GetElementPtr, Call, ExtractValue, InsertValue, Instruction, Case, Ending, ReturnVoid, Return, Jump, Branch, Switch, Unreachable}
use Rattle.module_arena.specs.EntryRules.{alignment_suits}
use Rattle.module_arena.specs.Forms.{is_binary, is_cast}
use Rattle.module_arena.specs.TypeTests.{is_void}
use Rattle.record_table.specs.FittingLines.{IsSome, IfSome, IsAbsent}

-- integers of more than 64 bits, which take two operands
abbrev pub is_wide : Tree → Bool
is_wide (int width) = nat_lt 64 width
is_wide ptr = false
is_wide void = false
is_wide (array n t) = false
is_wide (struct packed ts) = false
is_wide (named name) = false

-- a number of two operands, or of one
abbrev pub HasRoom : Bool → ℕ → Type 0
HasRoom true n = n < 2 ^ WIDEST
HasRoom false n = n < 2 ^ 64

abbrev mutual
  -- each integer in a constant of that type has room in its operands
  pub Stands : Tree → Constant → Type 0
  Stands t (Integer n) = HasRoom (is_wide t) n
  Stands t (Truth b) = ⊤
  Stands t Null = ⊤
  Stands t Undef = ⊤
  Stands t Poison = ⊤
  Stands t ZeroInitializer = ⊤
  Stands t (Address g) = ⊤
  Stands t (ByteString bytes) = ⊤
  Stands t (Aggregate round cs) = AllStand cs
  Stands t (ElementAddress f source cs) = AllStand cs
  Stands t (Cast o from c to) = Stands from c
  Stands t (Binary o f s a u b) = Stands s a × Stands u b

  -- the same of constants with their types
  pub AllStand : Constants → Type 0
  AllStand no_constants = ⊤
  AllStand (more_constants t c cs) = Stands t c × AllStand cs

-- a local, or such a constant
abbrev pub ValueStands : Tree → Value → Type 0
ValueStands t (Local name) = ⊤
ValueStands t (Known c) = Stands t c

-- a value behind its type
abbrev pub OperandStands : Operand → Type 0
OperandStands o = ValueStands o.ty o.value

-- an operand of the type of its place, which no record says
abbrev pub PlaceStands : Tree → Operand → Type 0
PlaceStands t o = (o.ty ≡ t) × ValueStands t o.value

-- an alignment that has a code
abbrev pub HasCode : Option ℕ → Type 0
HasCode align = alignment_suits align ≡ true

-- arguments for the parameters, and further ones with their types
abbrev pub ArgumentsStand : List Tree → List Operand → Type 0
ArgumentsStand ts [] = ⊤
ArgumentsStand [] (x ∷ xs) = OperandStands x × ArgumentsStand [] xs
ArgumentsStand (t ∷ ts) (x ∷ xs) = PlaceStands t x × ArgumentsStand ts xs

-- what an instruction does
abbrev pub OperationStands : Operation → Type 0
OperationStands (BinaryOperation o f a b) = (is_binary o ≡ true) × OperandStands a × ValueStands a.ty b
OperationStands (Compare f p a b) = OperandStands a × ValueStands a.ty b
OperationStands (Convert o f a t) = (is_cast o ≡ true) × OperandStands a
OperationStands (Select c a b) = PlaceStands (int 1) c × OperandStands a × PlaceStands a.ty b
OperationStands (Freeze a) = OperandStands a
OperationStands (Phi t incoming) = All (λ i. ValueStands t i.value) incoming
OperationStands (Load f t a align) = PlaceStands ptr a × HasCode align
OperationStands (Store f v a align) = OperandStands v × PlaceStands ptr a × HasCode align
OperationStands (Alloca t count align) = IfSome OperandStands count × HasCode align
OperationStands (GetElementPtr f t base indices) = PlaceStands ptr base × All OperandStands indices
OperationStands (Call s callee arguments) = ValueStands ptr callee × ArgumentsStand s.parameters arguments
OperationStands (ExtractValue a indices) = OperandStands a
OperationStands (InsertValue a part indices) = OperandStands a × OperandStands part

-- a call has a result where it does not return `void`
abbrev pub CallResultStands : Bool → Option LocalName → Type 0
CallResultStands true result = IsAbsent result
CallResultStands false result = IsSome (λ name. ⊤) result

-- a call has a result where it does not return `void`; of others nothing is asked here
abbrev pub ResultStands : Operation → Option LocalName → Type 0
ResultStands (Call s callee arguments) result = CallResultStands (is_void s.returns) result
ResultStands _ result = ⊤

-- an instruction
abbrev pub InstructionStands : Instruction → Type 0
InstructionStands i = OperationStands i.operation × ResultStands i.operation i.result

-- a case of a switch over that type
abbrev pub CaseStands : Tree → Case → Type 0
CaseStands t c = (c.ty ≡ t) × Stands t c.value

-- an end
abbrev pub EndingStands : Ending → Type 0
EndingStands ReturnVoid = ⊤
EndingStands (Return v) = OperandStands v
EndingStands (Jump b) = ⊤
EndingStands (Branch c a b) = PlaceStands (int 1) c
EndingStands (Switch v b cases) = OperandStands v × All (CaseStands v.ty) cases
EndingStands Unreachable = ⊤
