-- Says how the code reads: the parts of an instruction over the locals of a function: what an arena can take, and what
-- its ids stand for.
use Rattle.std.specs.Prelude.{◌≡◌, ℕ, ◌<◌, List, [], ◌∷◌, length, slice_index_or}
use Rattle.ir_phrases.specs.Constants.Tree.{ValueTree, TypedValueTree}
use Rattle.ir_phrases.specs.Instructions.Tree.{IncomingTree, CaseTree}
use Rattle.type_table.specs.Types.{structs}
use Rattle.module_arena.specs.declared.instruction.Case as the_case
use Rattle.module_arena.specs.declared.instruction.Incoming as the_incoming
use Rattle.module_arena.specs.declared.instruction.Signature as the_signature
use Rattle.module_arena.specs.Lists.{Lists}
use Rattle.module_arena.specs.Module.{LocalName, Numbered, Incoming, Case, Signature}
use Rattle.item_build.specs.Types.Holding.{entries}
use Rattle.item_build.specs.Types.Stands.{IsType, AreTypes, IsConstant}
use Rattle.item_build.specs.Buildable.Bodies.{CanValue, CanOperand, CanIncoming, CanCase}
use Rattle.ir_resolve.specs.declared.instruction_build.locals.Locals.{Locals}
use Rattle.ir_resolve.specs.InstructionBuild.Meant.{IsValue}
use Rattle.ir_resolve.specs.InstructionBuild.Named.{called_of}

-- what the values of a function are called
abbrev pub value_names : Locals → List LocalName
value_names locals = called_of locals.values.names.items

-- what its blocks are called
abbrev pub block_names : Locals → List LocalName
block_names locals = called_of locals.blocks.names.items

-- ---- what an arena can take

module _ (a : Lists) (locals : Locals) where
  -- the value that is written
  abbrev pub TakesValue : ValueTree → Type 0
  TakesValue written = CanValue (structs a.table) (entries a) (value_names locals) (block_names locals) written

  -- the operand that is written
  abbrev pub TakesOperand : TypedValueTree → Type 0
  TakesOperand written = CanOperand (structs a.table) (entries a) (value_names locals) (block_names locals) written

  -- the value of a phi that is written
  abbrev pub TakesIncoming : IncomingTree → Type 0
  TakesIncoming written = CanIncoming (structs a.table) (entries a) (value_names locals) (block_names locals) written

  -- the case of a switch that is written
  abbrev pub TakesCase : CaseTree → Type 0
  TakesCase written = CanCase (structs a.table) (entries a) (value_names locals) (block_names locals) written

-- ---- what ids stand for

-- each item of the first list stands for the item of the second at its place
abbrev pub Each : {X Y : Type 0} → (X → Y → Type 0) → List X → List Y → Type 0
Each Is [] [] = Unit {0}
Each Is [] (y ∷ ys) = ⊥
Each Is (x ∷ xs) [] = ⊥
Each Is (x ∷ xs) (y ∷ ys) = Is x y × Each Is xs ys

-- the id is that of the block which is called so, where these are the names of all
pub record IsTarget (blocks : List LocalName) (id : ℕ) (expected : LocalName) : Type 0 where
  pub known : id < length blocks
  pub name : slice_index_or blocks id (Numbered 0) ≡ expected

module _ (values blocks : List LocalName) where
  -- the value of a phi is this one
  pub record IsIncoming (a : Lists) (i : the_incoming.Incoming) (expected : Incoming) : Type 0 where
    pub value : IsValue values blocks a i.value expected.value
    pub block : IsTarget blocks i.block expected.block

-- the case of a switch is this one
pub record IsCase (blocks : List LocalName) (a : Lists) (c : the_case.Case) (expected : Case) : Type 0 where
  pub ty : IsType a c.ty expected.ty
  pub value : IsConstant a c.value expected.value
  pub target : IsTarget blocks c.target expected.target

-- the function type is this one
pub record IsSignature (a : Lists) (s : the_signature.Signature) (expected : Signature) : Type 0 where
  pub returns : IsType a s.returns expected.returns
  pub parameters : AreTypes a s.parameters expected.parameters
  pub variadic : s.variadic ≡ expected.variadic
