-- Which constants are pointers, and which of them fit `ptr`, by the ids of what is in them.
use Rattle.std.proofs.Common.{◌≡◌, ℕ, ◌&&◌, List, [], ◌∷◌, Some, slice_get, refl, ap, ◌∙◌, sym}
use Rattle.ir_tables.specs.declared.opcode.Opcode.{Opcode}
use Rattle.type_table.specs.Tree.{Tree, Structs, int, ptr, void, array, struct, named}
use Rattle.type_table.specs.Types.{tree, trees, structs}
use Rattle.module_arena.specs.declared.constant.Brackets.TheVariants as brackets
use Rattle.module_arena.specs.declared.constant.Const.{Const}
use Rattle.module_arena.specs.declared.constant.Const.TheVariants as const
use Rattle.module_arena.specs.declared.constant.TypedConst.{TypedConst}
use Rattle.module_arena.specs.Changes.{constant_in}
use Rattle.module_arena.specs.Constants.{fits, is_pointer_constant}
use Rattle.module_arena.specs.Known.{IsGood}
use Rattle.module_arena.specs.Lists.{Lists}
use Rattle.module_arena.specs.Module.{Constant, Constants}
use Rattle.module_arena.specs.Module.Constant.{Cast, ElementAddress}
use Rattle.module_arena.specs.Module.Constants.{more_constants}
use Rattle.module_arena.specs.TypeTests.{is_pointer}
use Rattle.module_arena.specs.View.{constant_at, constants_at, constants_of}
use Rattle.module_arena.proofs.ConstantsTold.{constant_here}
use Rattle.instruction_verify.specs.Last.ValuesById.{fits_as_pointer, fits_base, fits_pointer, is_pointer_const}

-- a cast fits `ptr` where it goes there
cast_fits : (s : Structs) (opcode : Opcode) (from : Tree) (value : Constant) (to : Tree) → (is_pointer to && fits s to (Cast opcode from value to)) ≡ fits s ptr (Cast opcode from value to)
cast_fits s opcode from value (int w) = refl
cast_fits s opcode from value ptr = refl
cast_fits s opcode from value void = refl
cast_fits s opcode from value (array n t) = refl
cast_fits s opcode from value (struct p ts) = refl
cast_fits s opcode from value (named x) = refl

-- an address fits `ptr` where it fits the type of its base
address_fits : (s : Structs) (flags : ℕ) (source t : Tree) (base : Constant) (indices : Constants)
    → (is_pointer t && fits s t (ElementAddress flags source (more_constants t base indices))) ≡ fits s ptr (ElementAddress flags source (more_constants t base indices))
address_fits s flags source (int w) base indices = refl
address_fits s flags source ptr base indices = refl
address_fits s flags source void base indices = refl
address_fits s flags source (array n t) base indices = refl
address_fits s flags source (struct p ts) base indices = refl
address_fits s flags source (named x) base indices = refl

module _ (a : Lists) (good : IsGood a) (id : ℕ) where
  pointer_at : (ty : ℕ) (x : Constant) → constant_at (constants_of a) id ≡ x → fits_pointer a ty id ≡ (is_pointer (tree a.table ty) && fits (structs a.table) (tree a.table ty) x)
  pointer_at ty x e = ap (λ y. is_pointer (tree a.table ty) && fits (structs a.table) (tree a.table ty) y) e

  base_at : (flags source : ℕ) (operands : List TypedConst)
      → constant_at (constants_of a) id ≡ ElementAddress flags (tree a.table source) (constants_at (trees a.table) (constants_of a) operands)
      → fits_base a id operands ≡ fits (structs a.table) ptr (ElementAddress flags (tree a.table source) (constants_at (trees a.table) (constants_of a) operands))
  base_at flags source [] e = refl
  base_at flags source (base ∷ indices) e =
      pointer_at base.ty _ e
      ∙ address_fits (structs a.table) flags (tree a.table source) (tree a.table base.ty) (constant_at (constants_of a) base.value) (constants_at (trees a.table) (constants_of a) indices)

  as_pointer : (k : Const) → constant_at (constants_of a) id ≡ constant_in a k → fits_as_pointer a id k ≡ fits (structs a.table) ptr (constant_in a k)
  as_pointer (const.Integer n) e = refl
  as_pointer (const.Truth truth) e = refl
  as_pointer const.Null e = refl
  as_pointer const.Undef e = refl
  as_pointer const.Poison e = refl
  as_pointer const.ZeroInitializer e = refl
  as_pointer (const.Address g) e = refl
  as_pointer (const.ByteString bytes) e = refl
  as_pointer (const.Aggregate brackets.Square elements) e = refl
  as_pointer (const.Aggregate brackets.Braces elements) e = refl
  as_pointer (const.Aggregate brackets.Packed elements) e = refl
  as_pointer (const.ElementAddress flags address) e = base_at flags address.source address.operands e
  as_pointer (const.Cast opcode operand to) e =
      pointer_at to _ e ∙ cast_fits (structs a.table) opcode (tree a.table operand.ty) (constant_at (constants_of a) operand.value) (tree a.table to)
  as_pointer (const.Binary opcode flags pair) e = refl

  -- whether a constant fits `ptr`
  pub pointer_told : (k : Const) → slice_get a.constants id ≡ Some k → fits_as_pointer a id k ≡ fits (structs a.table) ptr (constant_at (constants_of a) id)
  pointer_told k at =
      let here = constant_here a good id k at in
      as_pointer k here ∙ ap (fits (structs a.table) ptr) (sym here)

  is_so : (k : Const) → is_pointer_const a.table k ≡ is_pointer_constant (constant_in a k)
  is_so (const.Integer n) = refl
  is_so (const.Truth truth) = refl
  is_so const.Null = refl
  is_so const.Undef = refl
  is_so const.Poison = refl
  is_so const.ZeroInitializer = refl
  is_so (const.Address g) = refl
  is_so (const.ByteString bytes) = refl
  is_so (const.Aggregate round elements) = refl
  is_so (const.ElementAddress flags address) = refl
  is_so (const.Cast opcode operand to) = refl
  is_so (const.Binary opcode flags pair) = refl

  -- whether a constant is a pointer
  pub is_pointer_told : (k : Const) → slice_get a.constants id ≡ Some k → is_pointer_const a.table k ≡ is_pointer_constant (constant_at (constants_of a) id)
  is_pointer_told k at = is_so k ∙ ap is_pointer_constant (sym (constant_here a good id k at))
