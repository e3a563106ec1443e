-- For `pieces_are_tokens` and `tokens_are_items`: what canonical text can write of blocks, functions and modules, so
-- that it is read back.
use Rattle.std.specs.Prelude.{◌≡◌, ℕ, Bool, true, false, List, [], ◌∷◌, Option, Some, None}
use Rattle.ir_tables.specs.declared.linkage.Linkage.{Linkage}
use Rattle.ir_tables.specs.declared.linkage.Linkage.TheVariants as linkage
use Rattle.type_table.specs.Tree.{Tree, TreeBody, opaque_body, fields}
use Rattle.module_arena.specs.Forms.{is_not_empty}
use Rattle.module_arena.specs.Module.{Bytes, LocalName, Constant, Operation, Store, Instruction, Case, Ending, ReturnVoid, Return, Jump, Branch, Switch, Unreachable, Block, Parameter, Variable, AliasType, PlainType, FunctionType, Alias, Function, Module}
use Rattle.type_table.specs.Tree.{void}
use Rattle.canonical.specs.Law.Written.{AreBytes, IsNameText, IsLocalText, Inside, IsTypeText, AreTypeTexts, IsConstantText, IsOperandText, IsAlignmentText, IsOperationText, AreTypeListTexts}

-- a store gives nothing that could have a name
abbrev pub HasResult : Option LocalName → Operation → Type 0
HasResult None o = Unit {0}
HasResult (Some name) (Store set value address alignment) = ⊥
HasResult (Some name) _ = IsLocalText name

-- an instruction, and what it is called
abbrev pub IsInstructionText : ℕ → Instruction → Type 0
IsInstructionText nesting i = HasResult i.result i.operation × IsOperationText nesting i.operation

-- each instruction
abbrev pub AreInstructionTexts : ℕ → List Instruction → Type 0
AreInstructionTexts nesting [] = Unit {0}
AreInstructionTexts nesting (i ∷ more) = IsInstructionText nesting i × AreInstructionTexts nesting more

-- each case of a switch
abbrev pub AreCaseTexts : ℕ → List Case → Type 0
AreCaseTexts nesting [] = Unit {0}
AreCaseTexts nesting (c ∷ more) = IsTypeText c.ty nesting × IsConstantText nesting c.ty c.value nesting × IsLocalText c.target × AreCaseTexts nesting more

-- no value has the type `void`
abbrev pub is_value_type : Tree → Bool
is_value_type void = false
is_value_type _ = true

-- the end of a block
abbrev pub IsEndingText : ℕ → Ending → Type 0
IsEndingText nesting ReturnVoid = Unit {0}
IsEndingText nesting (Return value) = (is_value_type value.ty ≡ true) × IsOperandText nesting value
IsEndingText nesting (Jump to) = IsLocalText to
IsEndingText nesting (Branch condition then_to else_to) = IsOperandText nesting condition × IsLocalText then_to × IsLocalText else_to
IsEndingText nesting (Switch value otherwise cases) = IsOperandText nesting value × IsLocalText otherwise × AreCaseTexts nesting cases
IsEndingText nesting Unreachable = Unit {0}

-- a block
abbrev pub IsBlockText : ℕ → Block → Type 0
IsBlockText nesting b = IsLocalText b.name × AreInstructionTexts nesting b.instructions × IsEndingText nesting b.ending

-- each block
abbrev pub AreBlockTexts : ℕ → List Block → Type 0
AreBlockTexts nesting [] = Unit {0}
AreBlockTexts nesting (b ∷ more) = IsBlockText nesting b × AreBlockTexts nesting more

-- each parameter, which has a name or a number
abbrev pub AreParameterTexts : ℕ → List Parameter → Type 0
AreParameterTexts nesting [] = Unit {0}
AreParameterTexts nesting (p ∷ more) = IsTypeText p.ty nesting × IsLocalText p.name × AreParameterTexts nesting more

-- a variadic function has no body
abbrev pub IsBodyText : ℕ → Bool → Option (List Block) → Type 0
IsBodyText nesting variadic None = Unit {0}
IsBodyText nesting variadic (Some blocks) = (variadic ≡ false) × (is_not_empty blocks ≡ true) × AreBlockTexts nesting blocks

-- a function
abbrev pub IsFunctionText : ℕ → Function → Type 0
IsFunctionText nesting f = IsNameText f.name × IsTypeText f.returns nesting × AreParameterTexts nesting f.parameters × IsBodyText nesting f.variadic f.body

-- the linkage of a variable without an initialiser
abbrev pub is_declared_as : Linkage → Bool
is_declared_as linkage.External = true
is_declared_as linkage.ExternWeak = true
is_declared_as _ = false

-- the linkage of a variable with an initialiser
abbrev pub is_defined_as : Linkage → Bool
is_defined_as linkage.ExternWeak = false
is_defined_as _ = true

-- an initialiser, or none, with the linkage that goes with it
abbrev pub IsInitialiserText : ℕ → Linkage → Tree → Option Constant → Type 0
IsInitialiserText nesting linkage ty None = is_declared_as linkage ≡ true
IsInitialiserText nesting linkage ty (Some c) = (is_defined_as linkage ≡ true) × IsConstantText nesting ty c nesting

-- a variable
abbrev pub IsVariableText : ℕ → Variable → Type 0
IsVariableText nesting v = IsNameText v.name × IsTypeText v.ty nesting × IsInitialiserText nesting v.linkage v.ty v.initialiser × IsAlignmentText v.alignment

-- the braces of a body count too
abbrev pub IsBodyOfStruct : ℕ → TreeBody → Type 0
IsBodyOfStruct nesting opaque_body = Unit {0}
IsBodyOfStruct nesting (fields packed ts) = Inside nesting (AreTypeTexts ts)

-- each struct
abbrev pub AreStructTexts : ℕ → List (Bytes × TreeBody) → Type 0
AreStructTexts nesting [] = Unit {0}
AreStructTexts nesting (s ∷ more) = IsNameText s.0 × IsBodyOfStruct nesting s.1 × AreStructTexts nesting more

-- each variable
abbrev pub AreVariableTexts : ℕ → List Variable → Type 0
AreVariableTexts nesting [] = Unit {0}
AreVariableTexts nesting (v ∷ more) = IsVariableText nesting v × AreVariableTexts nesting more

-- each function
abbrev pub AreFunctionTexts : ℕ → List Function → Type 0
AreFunctionTexts nesting [] = Unit {0}
AreFunctionTexts nesting (f ∷ more) = IsFunctionText nesting f × AreFunctionTexts nesting more

-- a text of the module, where there is one
abbrev pub IsText : Option Bytes → Type 0
IsText None = Unit {0}
IsText (Some bytes) = AreBytes bytes

-- the type of an alias
abbrev pub IsAliasTypeText : ℕ → AliasType → Type 0
IsAliasTypeText nesting (PlainType ty) = IsTypeText ty nesting
IsAliasTypeText nesting (FunctionType s) = IsTypeText s.returns nesting × AreTypeListTexts nesting s.parameters

-- an alias
abbrev pub IsAliasText : ℕ → Alias → Type 0
IsAliasText nesting a = IsNameText a.name × IsAliasTypeText nesting a.ty × IsNameText a.target

-- each alias
abbrev pub AreAliasTexts : ℕ → List Alias → Type 0
AreAliasTexts nesting [] = Unit {0}
AreAliasTexts nesting (a ∷ more) = IsAliasText nesting a × AreAliasTexts nesting more

-- a module that canonical text can write, with no more than so many brackets open at once
pub record IsWritable (nesting : ℕ) (m : Module) : Type 0 where
  pub source : IsText m.source
  pub layout : IsText m.layout
  pub triple : IsText m.triple
  pub structs : AreStructTexts nesting m.structs
  pub variables : AreVariableTexts nesting m.variables
  pub aliases : AreAliasTexts nesting m.aliases
  pub functions : AreFunctionTexts nesting m.functions
