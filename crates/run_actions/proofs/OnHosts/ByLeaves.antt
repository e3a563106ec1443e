-- What `printf` writes is told by the leaves of its arguments alone.
use Rattle.std.proofs.Common.{◌≡◌, ℕ, zero, suc, ◌+◌, List, [], ◌∷◌, length, map, Result, Ok, Err, Option, refl, sym, ap, ap₂, ◌∙◌}
use Rattle.std.specs.Prelude.{if◌then◌else◌, slice_range}
use Rattle.ir_eval.specs.declared.value.Scalar.{Scalar}
use Rattle.ir_eval.specs.declared.value.Scalar.TheVariants.{Int, Ptr, Poison}
use Rattle.ir_memory.specs.Memory.{Blocks}
use Rattle.ir_memory.specs.declared.leaf.Leaf.{Leaf}
use Rattle.ir_printf.specs.Pattern.{piece_at}
use Rattle.ir_printf.specs.declared.conversion.Conversion.{Conversion}
use Rattle.ir_printf.specs.declared.conversion.ConversionKind.{ConversionKind}
use Rattle.ir_printf.specs.declared.conversion.ConversionKind.TheVariants as kind
use Rattle.ir_printf.specs.declared.conversion.Length.{Length}
use Rattle.ir_printf.specs.declared.conversion.Length.TheVariants as size
use Rattle.ir_printf.specs.declared.pattern.BadFormat.{BadFormat}
use Rattle.ir_printf.specs.declared.pattern.PatternPiece.{PatternPiece}
use Rattle.ir_printf.specs.declared.pattern.PatternPiece.TheVariants as piece
use Rattle.ir_tables.specs.declared.undefined_kind.UndefinedKind.TheVariants as kinds
use Rattle.linkage_rules.specs.SameShape.{same_shape}
use Rattle.run_rules.specs.Access.{and_then, string_at}
use Rattle.run_rules.specs.Printing.{Rest, converted, printed, prints, shape_for, then_bytes, written_conversion, written_from, written_piece}
use Rattle.run_names.specs.Types.Wanted.{leaf_of}
use Rattle.type_table.specs.Shape.{Shape, int_leaf, ptr_leaf, void_leaf, opaque_leaf, array_of, struct_of}
use Rattle.run_actions.specs.Hosts.Printing.{shape_from}

-- what a conversion takes is an integer or a pointer
by_wanted : (P : Shape → Type 0) → P ptr_leaf → ((width : ℕ) → P (int_leaf width)) → (k : ConversionKind) (l : Length) → P (shape_for k l)
by_wanted P pointer number kind.Bytes l = pointer
by_wanted P pointer number kind.Char l = number 32
by_wanted P pointer number _ size.Long = number 64
by_wanted P pointer number _ l = number 32

no_pointer : (s : Shape) → same_shape s ptr_leaf ≡ same_shape (shape_from (leaf_of s)) ptr_leaf
no_pointer (int_leaf width) = refl
no_pointer ptr_leaf = refl
no_pointer void_leaf = refl
no_pointer (opaque_leaf label) = refl
no_pointer (array_of n s) = refl
no_pointer (struct_of label packed ss) = refl

no_number : (s : Shape) (width : ℕ) → same_shape s (int_leaf width) ≡ same_shape (shape_from (leaf_of s)) (int_leaf width)
no_number (int_leaf w) width = refl
no_number ptr_leaf width = refl
no_number void_leaf width = refl
no_number (opaque_leaf label) width = refl
no_number (array_of n s) width = refl
no_number (struct_of label packed ss) width = refl

same_wanted : (s : Shape) (k : ConversionKind) (l : Length) → same_shape s (shape_for k l) ≡ same_shape (shape_from (leaf_of s)) (shape_for k l)
same_wanted s k l = by_wanted (λ t. same_shape s t ≡ same_shape (shape_from (leaf_of s)) t) (no_pointer s) (no_number s) k l

-- shapes with these leaves
abbrev by_leaves : List Shape → List Shape
by_leaves ss = map shape_from (map leaf_of ss)

module _ (m : Blocks) (pattern : List ℕ) where
  -- what is behind is told by the leaves
  abbrev ByLeaves : Rest → Type 0
  ByLeaves rest = (at : ℕ) (ss : List Shape) (vs : List Scalar) → rest at ss vs ≡ rest at (by_leaves ss) vs

  conversion_by : (rest : Rest) → ByLeaves rest → (c : Conversion) (which : ConversionKind) (to : ℕ) → ByLeaves (written_conversion m rest c which to)
  conversion_by rest h c kind.Percent to at ss vs = ap (then_bytes (Ok (37 ∷ []))) (h to ss vs)
  conversion_by rest h c _ to at (s ∷ ss) (v ∷ vs) = ap₂ (λ b r. if b then then_bytes (converted m c v) r else Err kinds.BadFormat) (same_wanted s c.kind c.length) (h to ss vs)
  conversion_by rest h c _ to at [] vs = refl
  conversion_by rest h c _ to at (s ∷ ss) [] = refl

  piece_by : (rest : Rest) → ByLeaves rest → (r : Result PatternPiece BadFormat) → ByLeaves (written_piece m pattern rest r)
  piece_by rest h (Err bad) at ss vs = refl
  piece_by rest h (Ok piece.End) at ss vs = refl
  piece_by rest h (Ok (piece.Literal from to)) at ss vs = ap (then_bytes (Ok (slice_range pattern from to))) (h to ss vs)
  piece_by rest h (Ok (piece.Convert c to)) at ss vs = conversion_by rest h c c.kind to at ss vs

  from_by : (room : ℕ) → ByLeaves (written_from m pattern room)
  unfolding written_from
  from_by zero at ss vs = refl
  from_by (suc room) at ss vs = piece_by (written_from m pattern room) (from_by room) (piece_at pattern at) at ss vs

pub prints_by : (m : Blocks) (ss : List Shape) (vs : List Scalar) → prints (by_leaves ss) vs m ≡ prints ss vs m
prints_by m (s ∷ ss) (Ptr p ∷ vs) = sym (λ i. printed m (and_then (string_at m p) (λ pattern. from_by m pattern (length pattern + 1) 0 ss vs i)))
prints_by m [] vs = refl
prints_by m (s ∷ ss) [] = refl
prints_by m (s ∷ ss) (Int n ∷ vs) = refl
prints_by m (s ∷ ss) (Poison ∷ vs) = refl

-- so by what is told of the arguments
pub prints_told : (m : Blocks) (ss : List Shape) (told : List (Option Leaf)) (vs : List Scalar) → told ≡ map leaf_of ss → prints (map shape_from told) vs m ≡ prints ss vs m
prints_told m ss told vs e = ap (λ ks. prints (map shape_from ks) vs m) e ∙ prints_by m ss vs
