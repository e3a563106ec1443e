-- For `eq` and `hash` of `Const` as a key: when two constants of the code are the same, and what a hasher is fed of
-- one.
use Rattle.std.specs.Prelude.{ℕ, Bool, true, false, ◌&&◌, ◌==◌, bytes_eq, List, ◌++◌}
use Rattle.std.specs.Bool.{beq}
use Rattle.std.specs.Cmp.Lexicographic.{pointwise}
use Rattle.std.specs.Hash as fed
use Rattle.std.specs.Hash.{HashWrites}
use Rattle.module_arena.specs.declared.constant.Brackets.{Brackets}
use Rattle.module_arena.specs.declared.constant.Brackets.TheVariants as brackets
use Rattle.module_arena.specs.declared.constant.Const.{Const}
use Rattle.module_arena.specs.declared.constant.Const.TheVariants as const
use Rattle.module_arena.specs.declared.constant.TypedConst.{TypedConst}
use Rattle.module_arena.specs.declared.entry.GlobalId.{GlobalId}
use Rattle.module_arena.specs.declared.entry.GlobalId.TheVariants as global
use Rattle.module_arena.specs.Same.{same_opcode}

-- the code of a pair of brackets
abbrev pub brackets_code : Brackets → ℕ
brackets_code brackets.Square = 0
brackets_code brackets.Braces = 1
brackets_code brackets.Packed = 2

-- one id
abbrev pub same_global : GlobalId → GlobalId → Bool
same_global (global.Variable a) (global.Variable b) = a == b
same_global (global.Function a) (global.Function b) = a == b
same_global (global.Alias a) (global.Alias b) = a == b
same_global _ _ = false

-- one type, and one constant
abbrev pub same_typed : TypedConst → TypedConst → Bool
same_typed a b = (a.ty == b.ty) && (a.value == b.value)

-- the same, one by one
abbrev pub all_same_typed : List TypedConst → List TypedConst → Bool
all_same_typed as_ bs = pointwise same_typed as_ bs

-- one form, and the same parts, by their ids
abbrev pub same_const : Const → Const → Bool
same_const (const.Integer a) (const.Integer b) = a == b
same_const (const.Truth a) (const.Truth b) = beq a b
same_const const.Null const.Null = true
same_const const.Undef const.Undef = true
same_const const.Poison const.Poison = true
same_const const.ZeroInitializer const.ZeroInitializer = true
same_const (const.Address a) (const.Address b) = same_global a b
same_const (const.ByteString a) (const.ByteString b) = bytes_eq a b
same_const (const.Aggregate round as_) (const.Aggregate other bs) = (brackets_code round == brackets_code other) && all_same_typed as_ bs
same_const (const.ElementAddress flags a) (const.ElementAddress others b) = (flags == others) && ((a.source == b.source) && all_same_typed a.operands b.operands)
same_const (const.Cast opcode a to) (const.Cast other b aim) = same_opcode opcode other && (same_typed a b && (to == aim))
same_const (const.Binary opcode flags a) (const.Binary other others b) =
    same_opcode opcode other && ((flags == others) && (same_typed a.left b.left && same_typed a.right b.right))
same_const _ _ = false

-- the number of an id
abbrev pub global_number : GlobalId → ℕ
global_number (global.Variable id) = id
global_number (global.Function id) = id
global_number (global.Alias id) = id

-- what is fed of a constant with its type
abbrev pub typed_writes : TypedConst → HashWrites
typed_writes t = fed.u64 t.ty ++ fed.u64 t.value

-- what is fed of a constant: its form, and most of its parts
abbrev pub const_writes : Const → HashWrites
const_writes (const.Integer number) = fed.u8 0 ++ fed.u128 number
const_writes (const.Truth truth) = fed.u8 1 ++ fed.bool truth
const_writes const.Null = fed.u8 2
const_writes const.Undef = fed.u8 3
const_writes const.Poison = fed.u8 4
const_writes const.ZeroInitializer = fed.u8 5
const_writes (const.Address g) = fed.u8 6 ++ fed.u32 (global_number g)
const_writes (const.ByteString bytes) = fed.u8 7 ++ fed.slice fed.u8 bytes
const_writes (const.Aggregate round elements) = fed.u8 8 ++ fed.slice typed_writes elements
const_writes (const.ElementAddress flags address) = fed.u8 9 ++ fed.u64 address.source ++ fed.slice typed_writes address.operands
const_writes (const.Cast opcode operand to) = fed.u8 10 ++ typed_writes operand ++ fed.u64 to
const_writes (const.Binary opcode flags pair) = fed.u8 11 ++ typed_writes pair.left ++ typed_writes pair.right
