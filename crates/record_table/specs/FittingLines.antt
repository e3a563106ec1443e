-- For `instructions_are_read_back` and `endings_are_read_back`: what an instruction or an end must be so that its operands are read back.
-- Beside indices, flags and limits these are types that no record says, because validity does: of addresses, conditions, callees, arguments
-- and cases.
use Rattle.std.specs.Prelude.{◌≡◌, ℕ, nat_lt, Bool, true, false, List, [], ◌∷◌, Option, Some, None, ⊤}
use Rattle.std.specs.List.{AllByRecursion}
use Rattle.ir_tables.specs.declared.opcode.Opcode.TheVariants as op
use Rattle.type_table.specs.declared.measure.TheConstants.{NESTING_LIMIT}
use Rattle.type_table.specs.Tree.{Tree, int, ptr}
use Rattle.module_arena.specs.declared.arena.TheConstants.{INDEX_LIMIT}
use Rattle.module_arena.specs.Module.{LocalName, Operand, Incoming, Operation, BinaryOperation, Compare, Convert, Select, Freeze, Phi, Load, Store, Alloca, GetElementPtr, Call, ExtractValue, InsertValue, Instruction, Case, Ending, ReturnVoid, Return, Jump, Branch, Switch, Unreachable}
use Rattle.module_arena.specs.TypeTests.{is_void}
use Rattle.module_arena.specs.Forms.{is_binary, is_cast}
use Rattle.record_table.specs.Fields.{Texts, Numbering}
use Rattle.record_table.specs.Listed.{AreSome, AreFlagsOf, IsType, IsBlock, IsLabel, IsAlignment}
use Rattle.record_table.specs.FittingConstants.{Fits, ValueFits, OperandFits}

-- there is one, and it is so
abbrev pub IsSome : {A : Type 0} → (A → Type 0) → Option A → Type 0
IsSome holds None = ⊥
IsSome holds (Some x) = holds x

-- none, or one that is so
abbrev pub IfSome : {A : Type 0} → (A → Type 0) → Option A → Type 0
IfSome holds None = ⊤
IfSome holds (Some x) = holds x

-- none
abbrev pub IsAbsent : {A : Type 0} → Option A → Type 0
IsAbsent None = ⊤
IsAbsent (Some x) = ⊥

-- some indices, of 32 bits
abbrev pub AreIndices : List ℕ → Type 0
AreIndices is = AreSome (λ n. nat_lt n INDEX_LIMIT ≡ true) is

-- a call has a result where it does not return `void`
abbrev pub IsCallResult : Texts → ℕ → Bool → Option LocalName → Type 0
IsCallResult texts own true result = IsAbsent result
IsCallResult texts own false result = IsSome (IsLabel texts own) result

module _ (k : Numbering) where
  -- an operand whose type is that of its place, which no record says
  abbrev pub FitsPlace : Tree → Operand → Type 0
  FitsPlace t o = (o.ty ≡ t) × ValueFits k t o.value

  -- a value of the type and a block
  abbrev pub IncomingFits : Tree → Incoming → Type 0
  IncomingFits t i = ValueFits k t i.value × IsBlock k i.block

  -- arguments for the parameters, and further ones with their types; fewer are read back too
  abbrev pub AreArguments : List Tree → List Operand → Type 0
  AreArguments ts [] = ⊤
  AreArguments [] (x ∷ xs) = OperandFits k x × AreArguments [] xs
  AreArguments (t ∷ ts) (x ∷ xs) = FitsPlace t x × AreArguments ts xs

  -- what an instruction does
  abbrev pub OperationFits : Operation → Type 0
  OperationFits (BinaryOperation o f a b) = (is_binary o ≡ true) × AreFlagsOf o f × OperandFits k a × ValueFits k a.ty b
  OperationFits (Compare f p a b) = AreFlagsOf op.ICmp f × OperandFits k a × ValueFits k a.ty b
  OperationFits (Convert o f a t) = (is_cast o ≡ true) × AreFlagsOf o f × OperandFits k a × IsType k t
  OperationFits (Select c a b) = FitsPlace (int 1) c × OperandFits k a × FitsPlace a.ty b
  OperationFits (Freeze a) = OperandFits k a
  OperationFits (Phi t incoming) = IsType k t × AreSome (IncomingFits t) incoming
  OperationFits (Load f t a align) = AreFlagsOf op.Load f × IsType k t × FitsPlace ptr a × IsAlignment align
  OperationFits (Store f v a align) = AreFlagsOf op.Store f × OperandFits k v × FitsPlace ptr a × IsAlignment align
  OperationFits (Alloca t count align) = IsType k t × IfSome (OperandFits k) count × IsAlignment align
  OperationFits (GetElementPtr f t base indices) = AreFlagsOf op.GetElementPtr f × IsType k t × FitsPlace ptr base × AllByRecursion (OperandFits k) indices
  OperationFits (Call s callee arguments) = IsType k s.returns × AllByRecursion (IsType k) s.parameters × ValueFits k ptr callee × AreArguments s.parameters arguments
  OperationFits (ExtractValue a indices) = OperandFits k a × AreIndices indices
  OperationFits (InsertValue a part indices) = OperandFits k a × OperandFits k part × AreIndices indices

  -- a constant of the type and a block
  abbrev pub CaseFits : Tree → Case → Type 0
  CaseFits t c = (c.ty ≡ t) × Fits k c.value NESTING_LIMIT t × IsBlock k c.target

  -- an end
  abbrev pub EndingFits : Ending → Type 0
  EndingFits ReturnVoid = ⊤
  EndingFits (Return v) = OperandFits k v
  EndingFits (Jump b) = IsBlock k b
  EndingFits (Branch c a b) = FitsPlace (int 1) c × IsBlock k a × IsBlock k b
  EndingFits (Switch v b cases) = OperandFits k v × IsBlock k b × AllByRecursion (CaseFits v.ty) cases
  EndingFits Unreachable = ⊤

module _ (texts : Texts) (k : Numbering) where
  -- the result that an operation has
  abbrev pub IsResult : ℕ → Operation → Option LocalName → Type 0
  IsResult own (Store f v a align) result = IsAbsent result
  IsResult own (Call s callee arguments) result = IsCallResult texts own (is_void s.returns) result
  IsResult own _ result = IsSome (IsLabel texts own) result

  -- an instruction
  abbrev pub InstructionFits : ℕ → Instruction → Type 0
  InstructionFits own i = OperationFits k i.operation × IsResult own i.operation i.result
