-- For `read_coded`: constants that are made of others, where these are known.
use Rattle.std.specs.Prelude.{◌≡◌, ℕ, zero, suc, ◌<◌, List, All, length, Option, Some, None}
use Rattle.ir_tables.specs.declared.opcode.Opcode.{Opcode}
use Rattle.module_arena.specs.declared.constant.Const.{Const}
use Rattle.module_arena.specs.declared.constant.Const.TheVariants as const
use Rattle.module_arena.specs.declared.constant.TypedConst.{TypedConst}
use Rattle.type_table.specs.Types.{tree, trees}
use Rattle.module_arena.specs.Lists.{Lists}
use Rattle.module_arena.specs.Module as m
use Rattle.module_arena.specs.View.{constant_at, constants_at, constants_of}
use Rattle.record_table.specs.Constants as constants
use Rattle.record_table.specs.Fields.{Numbering, ty}
use Rattle.record_table.specs.Walk.{Walk, next}
use Rattle.record_read.specs.Reader.{IsBroken}
use Rattle.type_read.specs.declared.arena.module_reader.ModuleReader.{ModuleReader}
use Rattle.type_read.specs.Arena.Kept.{KeepsConstant}
use Rattle.body_read.specs.declared.constants.made.NestedForm as the_nested
use Rattle.body_read.specs.declared.constants.made.NestedForm.TheVariants as nested

-- a constant with its type, where both are known
abbrev pub typed_of : Option ℕ → Option ℕ → Option TypedConst
typed_of (Some ty) (Some value) = Some (record { ty = ty; value = value })
typed_of _ _ = None

-- a cast, where its parts are known
abbrev pub cast_of : Opcode → Option TypedConst → Option ℕ → Option Const
cast_of opcode (Some part) (Some to) = Some (const.Cast opcode part to)
cast_of opcode _ _ = None

-- a binary constant, where its operands are known
abbrev pub pair_of : Opcode → ℕ → Option TypedConst → Option TypedConst → Option Const
pair_of opcode flags (Some left) (Some right) = Some (const.Binary opcode flags (record { left = left; right = right }))
pair_of opcode flags _ _ = None

-- an address, where its parts are known
abbrev pub address_of : ℕ → Option ℕ → Option (List TypedConst) → Option Const
address_of flags (Some source) (Some operands) = Some (const.ElementAddress flags (record { source = source; operands = operands }))
address_of flags _ _ = None

-- a constant of the arena, with a type of it
abbrev pub HasTyped : Lists → TypedConst → Type 0
HasTyped a part = (part.ty < length a.table.types) × (part.value < length a.constants)

-- a constant that is made is kept where no rule is broken; none is made only where one is
abbrev pub KeepsMade : ModuleReader → Option Const → ModuleReader → Option ℕ → Type 0
KeepsMade old None new answer = (answer ≡ None) × (new ≡ old) × IsBroken old.reader.walk
KeepsMade old (Some c) new answer = KeepsConstant old c new answer

-- the readers of constants in a constant in which they may nest so deep
abbrev pub inner_of : Numbering → ℕ → Option constants.Reads
inner_of k zero = None
inner_of k (suc depth) = Some (constants.read_nested k depth)

-- the form that is meant
abbrev pub nested_form : the_nested.NestedForm → constants.ConstantForm
nested_form nested.List = constants.Listed
nested_form nested.Address = constants.Element
nested_form nested.Cast = constants.Converted
nested_form nested.Pair = constants.Computed

-- constants of the arena, with types of it
abbrev pub HasAll : Lists → List TypedConst → Type 0
HasAll a parts = All (HasTyped a) parts

-- a count, and so many constants, each behind its type, in which constants may nest so deep
abbrev pub typed_behind : Numbering → ℕ → Walk → m.Constants × Walk
typed_behind k depth w = let n = next w in constants.typed (ty k) (constants.read_nested k depth) n.0 n.1

-- these constants with their types, behind the base that they are indices of
abbrev pub AreIndices : Option TypedConst → Lists → List TypedConst → m.Constants → Type 0
AreIndices None a parts cs = ⊥
AreIndices (Some base) a parts cs =
    constants_at (trees a.table) (constants_of a) parts
    ≡ m.more_constants (tree a.table base.ty) (constant_at (constants_of a) base.value) cs
