-- For `steps_stay_typed`: what kinds of leaves stand where: an integer of a width, or a pointer.
use Rattle.std.specs.Prelude.{◌≡◌, ℕ, ◌+◌, ◌^◌, ◌<◌, ⊤, List, [], ◌∷◌, map, flat_map, slice_get, Option, Some}
use Rattle.ir_eval.specs.declared.value.Scalar.{Scalar}
use Rattle.ir_eval.specs.declared.value.Scalar.TheVariants as scalar
use Rattle.ir_memory.specs.declared.leaf.Leaf.{Leaf}
use Rattle.ir_memory.specs.declared.leaf.Leaf.TheVariants as leaf
use Rattle.ir_memory.specs.Given.{IsBlock}
use Rattle.type_table.specs.Shape.{Shape}
use Rattle.run_rules.specs.Leaves.{slots}

-- the kinds of the leaves of a value
abbrev pub kinds_of : Shape → List Leaf
kinds_of s = map (λ slot. slot.leaf) (slots s)

-- of values one after another
abbrev pub kinds_of_all : List Shape → List Leaf
kinds_of_all ss = flat_map kinds_of ss

-- a number below 2^N is an integer of N bits
abbrev pub IsNumberOf : ℕ → Leaf → Type 0
IsNumberOf number (leaf.Int width) = number < 2 ^ width
IsNumberOf number leaf.Ptr = ⊥

-- a pointer has no block, or one of the first so many
abbrev pub IsPointerTo : ℕ → Option ℕ → Leaf → Type 0
IsPointerTo count block (leaf.Int width) = ⊥
IsPointerTo count block leaf.Ptr = IsBlock count block

-- a leaf of the kind, or poison, where so many blocks were made
abbrev pub IsOf : ℕ → Leaf → Scalar → Type 0
IsOf count kind (scalar.Int number) = IsNumberOf number kind
IsOf count kind (scalar.Ptr p) = IsPointerTo count p.block kind
IsOf count kind scalar.Poison = ⊤

-- from that place on these kinds stand one after another
abbrev pub AreAt : List Leaf → ℕ → List Leaf → Type 0
AreAt kinds at [] = ⊤
AreAt kinds at (k ∷ ks) = (slice_get kinds at ≡ Some k) × AreAt kinds (at + 1) ks
