-- For `put_typed`, `put_value`, `put_value_at`, `put_operand`, `put_operands` and `put_incoming`, and how the code of `put_constant` reads: the forms of constants, and when values stand in
-- operands as they are.
use Rattle.std.specs.Prelude.{ℕ, ◌<◌, List, [], ◌∷◌, length, drop, ⊤}
use Rattle.std.specs.List.{IsDistinct}
use Rattle.type_table.specs.Tree.{Tree}
use Rattle.type_table.specs.Types.{tree}
use Rattle.module_arena.specs.declared.constant.Const.{Const}
use Rattle.module_arena.specs.declared.constant.Const.TheVariants as const
use Rattle.module_arena.specs.declared.constant.TypedConst.{TypedConst}
use Rattle.module_arena.specs.declared.entry.Function.{Function}
use Rattle.module_arena.specs.declared.instruction.Case as the_case
use Rattle.module_arena.specs.declared.instruction.Incoming as the_incoming
use Rattle.module_arena.specs.declared.instruction.Operand as the_operand
use Rattle.module_arena.specs.declared.instruction.Value as the_value
use Rattle.module_arena.specs.declared.instruction.Value.TheVariants as value
use Rattle.module_arena.specs.Lists.{Lists, value_names, function_blocks}
use Rattle.module_arena.specs.Same.{same_local}
use Rattle.record_table.specs.Constants.{ConstantForm, Number, NullPointer, Undefined, Poisoned, Zero, Global, Listed, Bytewise, Element, Converted, Computed}
use Rattle.record_table.specs.Standing.{Stands}
use Rattle.record_write.specs.Operands.Numbered.{constant_of, values_in, labels_in}

-- the ids of a constant with its type are those of the arena
pub record HasTyped (a : Lists) (c : TypedConst) : Type 0 where
  pub ty : c.ty < length a.table.types
  pub value : c.value < length a.constants

-- the form of a constant
abbrev pub form_in : Const → ConstantForm
form_in (const.Integer n) = Number
form_in (const.Truth b) = Undefined
form_in const.Null = NullPointer
form_in const.Undef = Undefined
form_in const.Poison = Poisoned
form_in const.ZeroInitializer = Zero
form_in (const.Address g) = Global
form_in (const.ByteString bytes) = Bytewise
form_in (const.Aggregate round parts) = Listed
form_in (const.ElementAddress flags address) = Element
form_in (const.Cast opcode part to) = Converted
form_in (const.Binary opcode flags pair) = Computed

-- a constant's id is one of the arena
abbrev pub KnowsValue : ℕ → the_value.Value → Type 0
KnowsValue constants (value.Local id) = ⊤
KnowsValue constants (value.Known id) = id < constants

-- no two values of the function, and no two blocks, have one name
pub record IsBody (a : Lists) (f : Function) : Type 0 where
  pub values : IsDistinct same_local (values_in a f)
  pub blocks : IsDistinct same_local (labels_in a f)

module _ (a : Lists) (f : Function) where
  -- a value of the function that stands at a type
  abbrev pub HasValueAt : Tree → the_value.Value → Type 0
  HasValueAt t (value.Local id) = id < length (value_names f)
  HasValueAt t (value.Known id) = Stands t (constant_of a id)

  -- an operand at its own type
  abbrev pub HasOperandIn : the_operand.Operand → Type 0
  HasOperandIn o = HasValueAt (tree a.table o.ty) o.value

  -- an entry of a phi of that type
  pub record HasIncomingIn (t : Tree) (i : the_incoming.Incoming) : Type 0 where
    pub value : HasValueAt t i.value
    pub block : i.block < length (function_blocks f)

  -- an argument of a call at the type of its parameter, or a further one at its own
  abbrev pub ArgumentStandsIn : List Tree → the_operand.Operand → Type 0
  ArgumentStandsIn [] x = HasOperandIn x
  ArgumentStandsIn (t ∷ ts) x = HasValueAt t x.value

  -- and all of them
  abbrev pub AreArgumentsIn : List Tree → List the_operand.Operand → Type 0
  AreArgumentsIn ts [] = ⊤
  AreArgumentsIn ts (x ∷ xs) = ArgumentStandsIn ts x × AreArgumentsIn (drop 1 ts) xs

  -- a case of a switch over a type
  pub record HasCaseIn (t : Tree) (c : the_case.Case) : Type 0 where
    pub value : Stands t (constant_of a c.value)
    pub block : c.target < length (function_blocks f)
