-- What is asked of a type, by what stands in the table.
use Rattle.std.proofs.Common.{◌≡◌, ◌≤◌, ◌<◌, ◌&&◌, ℕ, Bool, true, false, Option, Some, None, length, slice_get, IfSome, refl, sym, ap, ◌∙◌, subst, arith}
use Rattle.std.specs.Prelude.{nat_eq}
use Rattle.std.proofs.lemmas.Bool.{ne_eqb, eq-eqb}
use Rattle.std.proofs.lemmas.Option.{get_or_from_slice_get, slice_get_within}
use Rattle.type_table.specs.declared.ir_type.IrType.{IrType}
use Rattle.type_table.specs.declared.ir_type.IrType.TheVariants.{Int, Ptr, Void, Array, Struct, Named}
use Rattle.type_table.specs.Types.{Types, IsGood, Knows, names, trees, tree_of, tree}
use Rattle.type_table.proofs.Outlined.{tree-is, type_known}
use Rattle.module_arena.specs.TypeTests.{is_integer_of, is_pointer, width_of}
use Rattle.module_arena.specs.Constants.{is_bytes_of}
use Rattle.type_read.specs.declared.arena.module_reader.ModuleReader.{ModuleReader}
use Rattle.type_read.specs.Arena.Kept.{IsKnownType}

-- a type that is known is one of the table
pub known_within : (m : ModuleReader) (ty : Option ℕ) → IsKnownType m ty → IfSome ty (λ id. id < length m.growing.arena.table.types)
known_within m None h = tt
known_within m (Some id) h = h

module _ (t : Types) (good : IsGood t) (ty : ℕ) (x : IrType) (at : slice_get t.types ty ≡ Some x) where
  tree_here : tree t ty ≡ tree_of (names t) (trees t) x
  tree_here = tree-is t good ty (slice_get_within t.types ty x at) ∙ ap (tree_of (names t) (trees t)) (get_or_from_slice_get t.types ty x Void at)

  tree_by : (y : IrType) → x ≡ y → tree t ty ≡ tree_of (names t) (trees t) y
  tree_by y is = tree_here ∙ ap (tree_of (names t) (trees t)) is

  knows : Knows ty (length t.structs) x
  knows = subst (Knows ty (length t.structs)) (get_or_from_slice_get t.types ty x Void at) (type_known t good ty (slice_get_within t.types ty x at))

  pub pointer_told : x ≡ Ptr → true ≡ is_pointer (tree t ty)
  pointer_told is = sym (ap is_pointer (tree_by Ptr is))

  pub pointer_not : (x ≡ Ptr → ⊥) → false ≡ is_pointer (tree t ty)
  pointer_not not = sym (ap is_pointer tree_here ∙ by x not)
    where
      by : (y : IrType) → (y ≡ Ptr → ⊥) → is_pointer (tree_of (names t) (trees t) y) ≡ false
      by (Int w) no_one = refl
      by Ptr no_one = absurd (no_one refl)
      by Void no_one = refl
      by (Array n part) no_one = refl
      by (Struct packed parts) no_one = refl
      by (Named id) no_one = refl

  pub integer_told : (w : ℕ) → x ≡ Int w → nat_eq w 8 ≡ is_integer_of 8 (tree t ty)
  integer_told w is = sym (ap (is_integer_of 8) (tree_by (Int w) is))

  pub integer_not : ((w : ℕ) → x ≡ Int w → ⊥) → false ≡ is_integer_of 8 (tree t ty)
  integer_not not = sym (ap (is_integer_of 8) tree_here ∙ by x not)
    where
      by : (y : IrType) → ((w : ℕ) → y ≡ Int w → ⊥) → is_integer_of 8 (tree_of (names t) (trees t) y) ≡ false
      by (Int w) no_one = absurd (no_one w refl)
      by Ptr no_one = refl
      by Void no_one = refl
      by (Array n part) no_one = refl
      by (Struct packed parts) no_one = refl
      by (Named id) no_one = refl

  pub width_told : (w : ℕ) → x ≡ Int w → Some w ≡ width_of (tree t ty)
  width_told w is = sym (ap width_of (tree_by (Int w) is))

  pub width_bounds : (w : ℕ) → x ≡ Int w → (1 ≤ w) × (w ≤ 128)
  width_bounds w is = subst (Knows ty (length t.structs)) is knows

  pub width_not : ((w : ℕ) → x ≡ Int w → ⊥) → None ≡ width_of (tree t ty)
  width_not not = sym (ap width_of tree_here ∙ by x not)
    where
      by : (y : IrType) → ((w : ℕ) → y ≡ Int w → ⊥) → width_of (tree_of (names t) (trees t) y) ≡ None
      by (Int w) no_one = absurd (no_one w refl)
      by Ptr no_one = refl
      by Void no_one = refl
      by (Array n part) no_one = refl
      by (Struct packed parts) no_one = refl
      by (Named id) no_one = refl

  -- the type of an array's elements is an earlier one
  pub element_within : (n part : ℕ) → x ≡ Array n part → part < length t.types
  element_within n part is =
      let lt = slice_get_within t.types ty x at in
      let below : part < ty = subst (Knows ty (length t.structs)) is knows in
      omega (arith, lt, below)

  pub bytes_then : (size n part : ℕ) (is_byte : Bool) → x ≡ Array n part → n ≡ size → is_byte ≡ is_integer_of 8 (tree t part) → is_byte ≡ is_bytes_of size (tree t ty)
  bytes_then size n part is_byte is same byte = byte ∙ sym (ap (is_bytes_of size) (tree_by (Array n part) is) ∙ ap (λ b. b && is_integer_of 8 (tree t part)) (eq-eqb n size same))

  pub bytes_else : (size n part : ℕ) → x ≡ Array n part → (n ≡ size → ⊥) → nat_eq n size ≡ is_bytes_of size (tree t ty)
  bytes_else size n part is other = ne_eqb n size other ∙ sym (ap (is_bytes_of size) (tree_by (Array n part) is) ∙ ap (λ b. b && is_integer_of 8 (tree t part)) (ne_eqb n size other))

  pub bytes_not : (size : ℕ) → ((n part : ℕ) → x ≡ Array n part → ⊥) → false ≡ is_bytes_of size (tree t ty)
  bytes_not size not = sym (ap (is_bytes_of size) tree_here ∙ by x not)
    where
      by : (y : IrType) → ((n part : ℕ) → y ≡ Array n part → ⊥) → is_bytes_of size (tree_of (names t) (trees t) y) ≡ false
      by (Int w) no_one = refl
      by Ptr no_one = refl
      by Void no_one = refl
      by (Array n part) no_one = absurd (no_one n part refl)
      by (Struct packed parts) no_one = refl
      by (Named id) no_one = refl
