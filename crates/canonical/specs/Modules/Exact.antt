-- For `items_stand_for_their_module`: what a module keeps so that its canonical items stand for it.
use Rattle.std.specs.Prelude.{◌≡◌, ℕ, suc, ◌^◌, ◌<◌, ◌==◌, Bool, true, false, List, [], ◌∷◌, map, Option, Some, None}
use Rattle.ir_tables.specs.declared.width.TheConstants.{WIDEST}
use Rattle.type_table.specs.Tree.{Tree, int, ptr}
use Rattle.module_arena.specs.TypeTests.{is_void}
use Rattle.module_arena.specs.Module.{LocalName, Named, Numbered, Constant, Integer, Truth, Null, Undef, Poison, ZeroInitializer, Address, ByteString, Aggregate, ElementAddress, Cast, Binary, Constants, no_constants, more_constants, Value, Local, Known, Operand, Incoming, Operation, BinaryOperation, Compare, Convert, Select, Freeze, Phi, Load, Store, Alloca, GetElementPtr, Call, ExtractValue, InsertValue, Instruction, Case, Ending, ReturnVoid, Return, Jump, Branch, Switch, Unreachable, Block, Parameter, Variable, Function, Module}

-- i1
abbrev pub is_bit : Tree → Bool
is_bit (int width) = width == 1
is_bit _ = false

-- a number below 2^N at iN, and below 2^128 at any other type
abbrev pub IsExactNumber : Tree → ℕ → Type 0
IsExactNumber (int width) n = n < 2 ^ width
IsExactNumber _ n = n < 2 ^ WIDEST

abbrev mutual
  -- numbers in their range, and truths at types other than i1 alone
  pub IsExact : Tree → Constant → Type 0
  IsExact ty (Integer n) = IsExactNumber ty n
  IsExact ty (Truth b) = is_bit ty ≡ false
  IsExact ty Null = Unit {0}
  IsExact ty Undef = Unit {0}
  IsExact ty Poison = Unit {0}
  IsExact ty ZeroInitializer = Unit {0}
  IsExact ty (Address name) = Unit {0}
  IsExact ty (ByteString bytes) = Unit {0}
  IsExact ty (Aggregate kind cs) = AreExact cs
  IsExact ty (ElementAddress set source cs) = AreExact cs
  IsExact ty (Cast o from c to) = IsExact from c
  IsExact ty (Binary o set s b t c) = IsExact s b × IsExact t c

  -- each constant, at its type
  pub AreExact : Constants → Type 0
  AreExact no_constants = Unit {0}
  AreExact (more_constants ty c cs) = IsExact ty c × AreExact cs

-- a value at this type
abbrev pub IsExactValue : Tree → Value → Type 0
IsExactValue ty (Local name) = Unit {0}
IsExactValue ty (Known c) = IsExact ty c

-- a value behind its type
abbrev pub IsExactOperand : Operand → Type 0
IsExactOperand o = IsExactValue o.ty o.value

-- each value behind its type
abbrev pub AreExactOperands : List Operand → Type 0
AreExactOperands [] = Unit {0}
AreExactOperands (o ∷ os) = IsExactOperand o × AreExactOperands os

-- each entry of a phi, at its type
abbrev pub AreExactIncoming : Tree → List Incoming → Type 0
AreExactIncoming ty [] = Unit {0}
AreExactIncoming ty (i ∷ more) = IsExactValue ty i.value × AreExactIncoming ty more

-- the count of an alloca, where there is one
abbrev pub IsExactCount : Option Operand → Type 0
IsExactCount None = Unit {0}
IsExactCount (Some o) = IsExactOperand o

-- the function type that a call does not write is made of its arguments' types
abbrev pub IsExactSignature : Bool → List Tree → List Operand → Type 0
IsExactSignature true parameters arguments = Unit {0}
IsExactSignature false parameters arguments = parameters ≡ map (λ o. o.ty) arguments

-- what an instruction does
abbrev pub IsExactOperation : Operation → Type 0
IsExactOperation (BinaryOperation o set left right) = IsExactOperand left × IsExactValue left.ty right
IsExactOperation (Compare set p left right) = IsExactOperand left × IsExactValue left.ty right
IsExactOperation (Convert o set value to) = IsExactOperand value
IsExactOperation (Select a b c) = IsExactOperand a × IsExactOperand b × IsExactOperand c
IsExactOperation (Freeze v) = IsExactOperand v
IsExactOperation (Phi ty incoming) = AreExactIncoming ty incoming
IsExactOperation (Load set ty a n) = IsExactOperand a
IsExactOperation (Store set v a n) = IsExactOperand v × IsExactOperand a
IsExactOperation (Alloca ty c n) = IsExactCount c
IsExactOperation (GetElementPtr set s o os) = IsExactOperand o × AreExactOperands os
IsExactOperation (Call s v os) = IsExactSignature s.variadic s.parameters os × IsExactValue ptr v × AreExactOperands os
IsExactOperation (ExtractValue v ns) = IsExactOperand v
IsExactOperation (InsertValue v p ns) = IsExactOperand v × IsExactOperand p

-- without a name there is no result: a store, or a call that returns nothing
abbrev pub HasNoResult : Operation → Type 0
HasNoResult (Store set v a n) = Unit {0}
HasNoResult (Call s v os) = is_void s.returns ≡ true
HasNoResult _ = ⊥

-- a number is the next one
abbrev pub IsNext : ℕ → LocalName → Type 0
IsNext next (Named name) = Unit {0}
IsNext next (Numbered n) = n ≡ next

-- the next number behind it
abbrev pub behind : ℕ → LocalName → ℕ
behind next (Named name) = next
behind next (Numbered n) = suc next

-- the result of an operation: the next one, or none where it has none
abbrev pub IsNextResult : ℕ → Option LocalName → Operation → Type 0
IsNextResult next None o = HasNoResult o
IsNextResult next (Some name) o = IsNext next name

-- the next number behind it
abbrev pub behind_result : ℕ → Option LocalName → ℕ
behind_result next None = next
behind_result next (Some name) = behind next name

-- instructions, the first result of which is the next one
abbrev pub AreExactInstructions : ℕ → List Instruction → Type 0
AreExactInstructions next [] = Unit {0}
AreExactInstructions next (i ∷ more) = IsNextResult next i.result i.operation × IsExactOperation i.operation × AreExactInstructions (behind_result next i.result) more

-- each case of a switch
abbrev pub AreExactCases : List Case → Type 0
AreExactCases [] = Unit {0}
AreExactCases (c ∷ more) = IsExact c.ty c.value × AreExactCases more

-- the end of a block
abbrev pub IsExactEnding : Ending → Type 0
IsExactEnding ReturnVoid = Unit {0}
IsExactEnding (Return v) = IsExactOperand v
IsExactEnding (Jump to) = Unit {0}
IsExactEnding (Branch c a b) = IsExactOperand c
IsExactEnding (Switch v to cases) = IsExactOperand v × AreExactCases cases
IsExactEnding Unreachable = Unit {0}

-- the next number behind the results of all of these
abbrev pub behind_all : ℕ → List Instruction → ℕ
behind_all next [] = next
behind_all next (i ∷ more) = behind_all (behind_result next i.result) more

-- blocks, the first of which is the next one
abbrev pub AreExactBlocks : ℕ → List Block → Type 0
AreExactBlocks next [] = Unit {0}
AreExactBlocks next (b ∷ more) =
    IsNext next b.name
    × AreExactInstructions (behind next b.name) b.instructions
    × IsExactEnding b.ending
    × AreExactBlocks (behind_all (behind next b.name) b.instructions) more

-- parameters, the first of which is the next one
abbrev pub AreExactParameters : ℕ → List Parameter → Type 0
AreExactParameters next [] = Unit {0}
AreExactParameters next (p ∷ more) = IsNext next p.name × AreExactParameters (behind next p.name) more

-- the next number behind all of these
abbrev pub behind_parameters : ℕ → List Parameter → ℕ
behind_parameters next [] = next
behind_parameters next (p ∷ more) = behind_parameters (behind next p.name) more

-- the parameters of a declaration have the numbers from the next one on
abbrev pub AreNumbered : ℕ → List Parameter → Type 0
AreNumbered next [] = Unit {0}
AreNumbered next (p ∷ more) = (p.name ≡ Numbered next) × AreNumbered (suc next) more

-- a function with or without a body; only a declaration is variadic
abbrev pub IsExactBody : Function → Option (List Block) → Type 0
IsExactBody f None = AreNumbered 0 f.parameters
IsExactBody f (Some blocks) = (f.variadic ≡ false) × AreExactParameters 0 f.parameters × AreExactBlocks (behind_parameters 0 f.parameters) blocks

-- each function
abbrev pub AreExactFunctions : List Function → Type 0
AreExactFunctions [] = Unit {0}
AreExactFunctions (f ∷ more) = IsExactBody f f.body × AreExactFunctions more

-- an initialiser at its type, where there is one
abbrev pub IsExactInitialiser : Tree → Option Constant → Type 0
IsExactInitialiser ty None = Unit {0}
IsExactInitialiser ty (Some c) = IsExact ty c

-- each variable
abbrev pub AreExactVariables : List Variable → Type 0
AreExactVariables [] = Unit {0}
AreExactVariables (v ∷ more) = IsExactInitialiser v.ty v.initialiser × AreExactVariables more

-- a module whose canonical items stand for it
pub record IsExactModule (m : Module) : Type 0 where
  pub variables : AreExactVariables m.variables
  pub functions : AreExactFunctions m.functions
