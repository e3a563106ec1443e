-- For `eq` of `Const` as a key: its equality finds exactly equal constants.
use Rattle.std.proofs.Common.{◌≡◌, ℕ, Bool, true, ◌&&◌, ◌==◌, unwrap_or, List, Some, refl, sym, ap, ◌∙◌, subst}
use Rattle.std.specs.Bool.{Decides}
use Rattle.std.specs.Cmp.{booleans_Decides}
use Rattle.std.specs.Cmp.Lexicographic.{pointwise_decides, bytes_decides}
use Rattle.std.proofs.lemmas.Bool.{and_parts, and_from, false≢true}
use Rattle.std.proofs.lemmas.Bool.Decides.{Decides-eqb}
use Rattle.ir_tables.specs.declared.opcode.Opcode.{Opcode}
use Rattle.ir_tables.specs.declared.opcode.Opcode.TheVariants as op
use Rattle.ir_tables.specs.Opcode.{opcode_code, opcode_of_code}
use Rattle.module_arena.specs.declared.constant.Brackets.{Brackets}
use Rattle.module_arena.specs.declared.constant.Brackets.TheVariants as brackets
use Rattle.module_arena.specs.declared.constant.Const.{Const}
use Rattle.module_arena.specs.declared.constant.Const.TheVariants as const
use Rattle.module_arena.specs.declared.constant.ConstAddress.{ConstAddress}
use Rattle.module_arena.specs.declared.constant.ConstPair.{ConstPair}
use Rattle.module_arena.specs.declared.constant.TypedConst.{TypedConst}
use Rattle.module_arena.specs.declared.entry.GlobalId.{GlobalId}
use Rattle.module_arena.specs.declared.entry.GlobalId.TheVariants as global
use Rattle.module_arena.specs.Same.{same_opcode}
use Rattle.module_arena.specs.SameConst.{brackets_code, same_global, same_typed, all_same_typed, same_const}

-- a test that is passed only by equal values, and by each value with itself, tells the equal ones
decided_by : {K : Type 0} (test : K → K → Bool) → ((a b : K) → test a b ≡ true → a ≡ b) → ((a : K) → test a a ≡ true) → (a b : K) → Decides (test a b) (a ≡ b)
decided_by test sound self a b = (sound a b, λ e. subst (λ c. test a c ≡ true) e (self a))

-- an opcode is known by its code
opcode_back : (o : Opcode) → opcode_of_code (opcode_code o) ≡ Some o
unfolding opcode_of_code
opcode_back op.Add = refl
opcode_back op.Sub = refl
opcode_back op.Mul = refl
opcode_back op.UDiv = refl
opcode_back op.SDiv = refl
opcode_back op.URem = refl
opcode_back op.SRem = refl
opcode_back op.Shl = refl
opcode_back op.LShr = refl
opcode_back op.AShr = refl
opcode_back op.And = refl
opcode_back op.Or = refl
opcode_back op.Xor = refl
opcode_back op.ICmp = refl
opcode_back op.Trunc = refl
opcode_back op.ZExt = refl
opcode_back op.SExt = refl
opcode_back op.PtrToInt = refl
opcode_back op.IntToPtr = refl
opcode_back op.Select = refl
opcode_back op.Freeze = refl
opcode_back op.Phi = refl
opcode_back op.Load = refl
opcode_back op.Store = refl
opcode_back op.Alloca = refl
opcode_back op.GetElementPtr = refl
opcode_back op.Call = refl
opcode_back op.ExtractValue = refl
opcode_back op.InsertValue = refl
opcode_back op.Ret = refl
opcode_back op.Br = refl
opcode_back op.Switch = refl
opcode_back op.Unreachable = refl

-- opcodes that test equal are equal
opcode_sound : (a b : Opcode) → same_opcode a b ≡ true → a ≡ b
opcode_sound a b h = ap (λ o. unwrap_or o a) (sym (opcode_back a) ∙ ap opcode_of_code ((Decides-eqb (opcode_code a) (opcode_code b)).0 h) ∙ opcode_back b)

-- a number is equal to itself
number_self : (n : ℕ) → (n == n) ≡ true
number_self n = (Decides-eqb n n).1 refl

-- brackets that test equal are equal
brackets_sound : (a b : Brackets) → (brackets_code a == brackets_code b) ≡ true → a ≡ b
brackets_sound brackets.Square brackets.Square h = refl
brackets_sound brackets.Braces brackets.Braces h = refl
brackets_sound brackets.Packed brackets.Packed h = refl
brackets_sound _ _ h = absurd (false≢true h)

-- constants with their types that test equal are equal
typed_sound : (a b : TypedConst) → same_typed a b ≡ true → a ≡ b
typed_sound a b h =
    let k = and_parts (a.ty == b.ty) (a.value == b.value) h in
    λ j. record { ty = (Decides-eqb a.ty b.ty).0 k.0 j; value = (Decides-eqb a.value b.value).0 k.1 j }

-- a constant with its type is equal to itself
typed_self : (a : TypedConst) → same_typed a a ≡ true
typed_self a = and_from (a.ty == a.ty) (a.value == a.value) (number_self a.ty) (number_self a.value)

-- constants with their types that are found equal are equal
pub same_typed_decides : (a b : TypedConst) → Decides (same_typed a b) (a ≡ b)
same_typed_decides = decided_by same_typed typed_sound typed_self

-- the test of lists of constants tells whether they are equal
typed_lists : (as_ bs : List TypedConst) → Decides (all_same_typed as_ bs) (as_ ≡ bs)
typed_lists = pointwise_decides same_typed_decides

-- entries that test equal are equal
global_sound : (a b : GlobalId) → same_global a b ≡ true → a ≡ b
global_sound (global.Variable a) (global.Variable b) h = ap global.Variable ((Decides-eqb a b).0 h)
global_sound (global.Function a) (global.Function b) h = ap global.Function ((Decides-eqb a b).0 h)
global_sound (global.Alias a) (global.Alias b) h = ap global.Alias ((Decides-eqb a b).0 h)
global_sound _ _ h = absurd (false≢true h)

-- an entry is equal to itself
global_self : (a : GlobalId) → same_global a a ≡ true
global_self (global.Variable a) = number_self a
global_self (global.Function a) = number_self a
global_self (global.Alias a) = number_self a

-- `getelementptr`s that test equal are equal
address_sound : (a b : ConstAddress) → ((a.source == b.source) && all_same_typed a.operands b.operands) ≡ true → a ≡ b
address_sound a b h =
    let k = and_parts (a.source == b.source) (all_same_typed a.operands b.operands) h in
    λ j. record { source = (Decides-eqb a.source b.source).0 k.0 j; operands = (typed_lists a.operands b.operands).0 k.1 j }

-- pairs that test equal are equal
pair_sound : (a b : ConstPair) → (same_typed a.left b.left && same_typed a.right b.right) ≡ true → a ≡ b
pair_sound a b h =
    let k = and_parts (same_typed a.left b.left) (same_typed a.right b.right) h in
    λ j. record { left = typed_sound a.left b.left k.0 j; right = typed_sound a.right b.right k.1 j }

-- constants that test equal are equal
const_sound : (a b : Const) → same_const a b ≡ true → a ≡ b
const_sound (const.Integer a) (const.Integer b) h = ap const.Integer ((Decides-eqb a b).0 h)
const_sound (const.Truth a) (const.Truth b) h = ap const.Truth ((booleans_Decides a b).0 h)
const_sound const.Null const.Null h = refl
const_sound const.Undef const.Undef h = refl
const_sound const.Poison const.Poison h = refl
const_sound const.ZeroInitializer const.ZeroInitializer h = refl
const_sound (const.Address a) (const.Address b) h = ap const.Address (global_sound a b h)
const_sound (const.ByteString a) (const.ByteString b) h = ap const.ByteString ((bytes_decides a b).0 h)
const_sound (const.Aggregate round as_) (const.Aggregate other bs) h =
    let k = and_parts (brackets_code round == brackets_code other) (all_same_typed as_ bs) h in
    λ j. const.Aggregate (brackets_sound round other k.0 j) ((typed_lists as_ bs).0 k.1 j)
const_sound (const.ElementAddress flags a) (const.ElementAddress others b) h =
    let k = and_parts (flags == others) ((a.source == b.source) && all_same_typed a.operands b.operands) h in
    λ j. const.ElementAddress ((Decides-eqb flags others).0 k.0 j) (address_sound a b k.1 j)
const_sound (const.Cast opcode a to) (const.Cast other b aim) h =
    let k = and_parts (same_opcode opcode other) (same_typed a b && (to == aim)) h in
    let l = and_parts (same_typed a b) (to == aim) k.1 in
    λ j. const.Cast (opcode_sound opcode other k.0 j) (typed_sound a b l.0 j) ((Decides-eqb to aim).0 l.1 j)
const_sound (const.Binary opcode flags a) (const.Binary other others b) h =
    let k = and_parts (same_opcode opcode other) ((flags == others) && (same_typed a.left b.left && same_typed a.right b.right)) h in
    let l = and_parts (flags == others) (same_typed a.left b.left && same_typed a.right b.right) k.1 in
    λ j. const.Binary (opcode_sound opcode other k.0 j) ((Decides-eqb flags others).0 l.0 j) (pair_sound a b l.1 j)
const_sound _ _ h = absurd (false≢true h)

-- a constant is equal to itself
const_self : (a : Const) → same_const a a ≡ true
const_self (const.Integer a) = number_self a
const_self (const.Truth a) = (booleans_Decides a a).1 refl
const_self const.Null = refl
const_self const.Undef = refl
const_self const.Poison = refl
const_self const.ZeroInitializer = refl
const_self (const.Address a) = global_self a
const_self (const.ByteString a) = (bytes_decides a a).1 refl
const_self (const.Aggregate round as_) = and_from _ _ (number_self (brackets_code round)) ((typed_lists as_ as_).1 refl)
const_self (const.ElementAddress flags a) = and_from _ _ (number_self flags) (and_from _ _ (number_self a.source) ((typed_lists a.operands a.operands).1 refl))
const_self (const.Cast opcode a to) = and_from _ _ (number_self (opcode_code opcode)) (and_from _ _ (typed_self a) (number_self to))
const_self (const.Binary opcode flags a) =
    and_from _ _ (number_self (opcode_code opcode)) (and_from _ _ (number_self flags) (and_from _ _ (typed_self a.left) (typed_self a.right)))

-- constants that are found equal are equal
pub same_const_decides : (a b : Const) → Decides (same_const a b) (a ≡ b)
same_const_decides = decided_by same_const const_sound const_self
