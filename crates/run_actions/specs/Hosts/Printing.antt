-- Says how the code reads: the arguments of `printf`, by their leaves.
use Rattle.std.specs.Prelude.{◌≡◌, ℕ, ◌%◌, ◌≤◌, ⊤, Bool, true, false, List, [], ◌∷◌, drop, length, map, Option, Some, None, Ok, if◌then◌else◌}
use Rattle.ir_eval.specs.declared.value.Scalar.{Scalar}
use Rattle.ir_memory.specs.Memory.{Blocks}
use Rattle.ir_memory.specs.declared.leaf.Leaf.{Leaf}
use Rattle.ir_memory.specs.declared.leaf.Leaf.TheVariants as leaf
use Rattle.ir_printf.specs.declared.conversion.Conversion.{Conversion}
use Rattle.ir_printf.specs.declared.conversion.ConversionKind.{ConversionKind}
use Rattle.ir_printf.specs.declared.conversion.ConversionKind.TheVariants as kind
use Rattle.ir_printf.specs.declared.conversion.Length.{Length}
use Rattle.ir_printf.specs.declared.conversion.Length.TheVariants as size
use Rattle.ir_printf.specs.Printed.{is_number, printed_bytes, printed_number}
use Rattle.run_rules.specs.Printing.{Rest, then_bytes, written_conversion}
use Rattle.type_table.specs.Shape.{Shape, int_leaf, ptr_leaf, void_leaf}
use Rattle.typed_runs.specs.Kinds.{IsOf}

-- a shape that is that leaf; one that is no leaf, where none is told
abbrev pub shape_from : Option Leaf → Shape
shape_from (Some (leaf.Int width)) = int_leaf width
shape_from (Some leaf.Ptr) = ptr_leaf
shape_from None = void_leaf

-- the leaf of the argument that a conversion takes
abbrev pub leaf_for : ConversionKind → Length → Leaf
leaf_for kind.Bytes span = leaf.Ptr
leaf_for kind.Char span = leaf.Int 32
leaf_for _ size.Long = leaf.Int 64
leaf_for _ span = leaf.Int 32

-- any conversion but `%%` takes an argument
abbrev pub takes_argument : ConversionKind → Bool
takes_argument kind.Percent = false
takes_argument _ = true

-- what a conversion writes of a number: its digits, or the byte that it tells
abbrev pub number_bytes : Conversion → ℕ → List ℕ
number_bytes c number = if is_number c.kind then printed_number c number else printed_bytes c (number % 256 ∷ [])

-- as far as each argument is one leaf, the leaf is of its kind
abbrev pub AreOf : ℕ → List (Option Leaf) → List Scalar → Type 0
AreOf count [] arguments = ⊤
AreOf count (None ∷ kinds) arguments = ⊤
AreOf count (Some kind ∷ kinds) [] = ⊥
AreOf count (Some kind ∷ kinds) (v ∷ vs) = IsOf count kind v × AreOf count kinds vs

-- the first argument is a pointer
abbrev pub ArePrinted : ℕ → List (Option Leaf) → List Scalar → Type 0
ArePrinted count (Some leaf.Ptr ∷ kinds) (v ∷ vs) = IsOf count leaf.Ptr v × AreOf count kinds vs
ArePrinted count _ _ = ⊥

-- a conversion took so many of these arguments and wrote these bytes, whatever is written behind it
pub record IsConversion (m : Blocks) (c : Conversion) (kinds : List (Option Leaf)) (arguments : List Scalar) (taken : ℕ) (bytes : List ℕ) : Type 0 where
  pub kinds_there : taken ≤ length kinds
  pub arguments_there : taken ≤ length arguments
  pub others : AreOf (length m.list) (drop taken kinds) (drop taken arguments)
  pub wrote : (rest : Rest) (to at : ℕ)
      → written_conversion m rest c c.kind to at (map shape_from kinds) arguments
      ≡ then_bytes (Ok bytes) (rest to (map shape_from (drop taken kinds)) (drop taken arguments))
