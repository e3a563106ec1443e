-- The constants in a constant, and the types that they write.
use Rattle.std.proofs.Common.{◌≡◌, ℕ, zero, suc, ◌+◌, ◌<◌, ◌≤◌, max, All, List, [], ◌∷◌, ◌++◌, length, flat_map, get_or, slice_get, Some, refl, sym, ap, arith}
use Rattle.type_table.specs.Types.{trees, tree}
use Rattle.module_arena.specs.declared.constant.Const.{Const}
use Rattle.module_arena.specs.declared.constant.TypedConst.{TypedConst}
use Rattle.module_arena.specs.Known.{IsGood}
use Rattle.module_arena.specs.Lists.{Lists, name_at}
use Rattle.module_arena.specs.View.{constants_of, constants_at, constant_view}
use Rattle.module_arena.proofs.ConstantsTold.{constant_here}
use Rattle.record_table.specs.Mentions as mentions
use Rattle.record_write.specs.Order.Written.{in_constant, in_typed, KnowsTyped}

-- above all of them
abbrev pub top : List TypedConst → ℕ
top [] = 0
top (part ∷ parts) = max (part.value + 1) (top parts)

pub below_top : (parts : List TypedConst) (place : ℕ) (d : TypedConst) → place < length parts → (get_or parts place d).value < top parts
below_top [] place d h = absurd (omega arith)
below_top (part ∷ parts) zero d h = omega arith
below_top (part ∷ parts) (suc place) d h = let again = below_top parts place d (omega (arith, h)) in omega (arith, again, h)

pub top_within : (types : ℕ) (parts : List TypedConst) (bound : ℕ) → All (λ part. (part.ty < types) × (part.value < bound)) parts → top parts ≤ bound
top_within types [] bound h = omega arith
top_within types (part ∷ parts) bound h =
    let again = top_within types parts bound (λ k d lt. h (suc k) d (omega (arith, lt))) in
    let here = (h 0 part (omega arith)).1 in
    omega (arith, again, here)

-- parts below a constant are constants of the arena
pub part_known : (a : Lists) (id : ℕ) (part : TypedConst) → id < length a.constants → (part.ty < length a.table.types) × (part.value < id) → KnowsTyped a part
part_known a id part lt h = (h.0, (let deep = h.1 in omega (arith, deep, lt)))

pub parts_known : (a : Lists) (id : ℕ) (parts : List TypedConst) → id < length a.constants → All (λ part. (part.ty < length a.table.types) × (part.value < id)) parts → All (KnowsTyped a) parts
parts_known a id parts lt h = λ k d le. part_known a id (get_or parts k d) lt (h k d le)

pub constants_flat : (a : Lists) (parts : List TypedConst) → mentions.in_constants (constants_at (trees a.table) (constants_of a) parts) ≡ flat_map (in_typed a) parts
constants_flat a [] = refl
constants_flat a (part ∷ parts) = ap (λ ts. tree a.table part.ty ∷ in_constant a part.value ++ ts) (constants_flat a parts)

-- what a constant writes, by what it is
pub written_here : (a : Lists) → IsGood a → (id : ℕ) (c : Const) → slice_get a.constants id ≡ Some c → mentions.in_constant (constant_view (trees a.table) (name_at a) (constants_of a) c) ≡ in_constant a id
written_here a good id c at = ap mentions.in_constant (sym (constant_here a good id c at))
