-- The tests by ids are those of the definitions: what a local value is called plays no part but for its type.
use Rattle.std.proofs.Common.{◌≡◌, ℕ, suc, ◌&&◌, Bool, List, [], ◌∷◌, map, length, refl, ap, sym, arith}
use Rattle.std.specs.List.{list_all}
use Rattle.std.specs.Prelude.{All}
use Rattle.type_table.specs.Tree.{Tree, int, ptr, void, array, struct, named}
use Rattle.type_table.specs.Types.{tree, trees, structs}
use Rattle.module_arena.specs.declared.instruction.Operand as the_operand
use Rattle.module_arena.specs.declared.instruction.Value as the_value
use Rattle.module_arena.specs.declared.instruction.Value.TheVariants as value
use Rattle.module_arena.specs.Known.{HasOperand, HasValue}
use Rattle.module_arena.specs.Lists.{Lists}
use Rattle.module_arena.specs.Module.{LocalName, Function, Operand}
use Rattle.module_arena.specs.Same.{same_type}
use Rattle.module_arena.specs.TypeTests.{is_integer_of, is_type}
use Rattle.module_arena.specs.ValueRules as values
use Rattle.module_arena.specs.View.{constants_of, operand_view, value_view}
use Rattle.instruction_verify.specs.Last.ValuesById.{AreLocalTypes, fits_here, has_own_type, has_type, value_of}
use Rattle.instruction_verify.specs.declared.last.local_type.LocalType.{LocalType}

-- a test of each passes where the same test of what each stands for does
each : {X Y : Type 0} (f : X → Y) (p : X → Bool) (q : Y → Bool) → ((x : X) → p x ≡ q (f x)) → (xs : List X) → list_all p xs ≡ list_all q (map f xs)
each f p q e [] = refl
each f p q e (x ∷ xs) = λ j. e x j && each f p q e xs j

-- the same, for those of which something is known
each_known : {X Y : Type 0} (K : X → Type 0) (f : X → Y) (p : X → Bool) (q : Y → Bool) → ((x : X) → K x → p x ≡ q (f x)) → (xs : List X) → All K xs → list_all p xs ≡ list_all q (map f xs)
each_known K f p q e [] h = refl
each_known K f p q e (x ∷ xs) h = λ j. e x (h 0 x (omega arith)) j && each_known K f p q e xs (λ i d lt. h (suc i) d (omega (arith, lt))) j

module _ (a : Lists) (vs bs : List LocalName) where
  abbrev pub seen : the_operand.Operand → Operand
  seen o = operand_view (trees a.table) (constants_of a) vs bs o

  fitted : (t : Tree) (v : the_value.Value) → values.value_fits (structs a.table) t (value_of a v) ≡ values.value_fits (structs a.table) t (value_view (trees a.table) (constants_of a) vs bs v)
  fitted t (value.Local id) = refl
  fitted t (value.Known id) = refl

  pub fits_told : (os : List the_operand.Operand) → list_all (fits_here a) os ≡ values.operands_fit (structs a.table) (map seen os)
  fits_told os = each seen (fits_here a) (λ o. values.value_fits (structs a.table) o.ty o.value) (λ o. fitted (tree a.table o.ty) o.value) os

  typed : (f : Function) (types : List LocalType) (constants ty : ℕ) (v : the_value.Value) → AreLocalTypes a f vs types → HasValue constants (length types) v
      → has_type a.table types ty v ≡ values.value_has_type (structs a.table) f (tree a.table ty) (value_view (trees a.table) (constants_of a) vs bs v)
  typed f types constants ty (value.Local id) told h = ap (is_type (same_type (tree a.table ty))) (sym (told id h))
  typed f types constants ty (value.Known id) told h = refl

  pub types_told : (f : Function) (types : List LocalType) (count constants : ℕ) (os : List the_operand.Operand) → AreLocalTypes a f vs types → All (HasOperand count constants (length types)) os
      → list_all (has_own_type a.table types) os ≡ values.have_types_written (structs a.table) f (map seen os)
  types_told f types count constants os told h =
      each_known (HasOperand count constants (length types)) seen (has_own_type a.table types) (λ o. values.value_has_type (structs a.table) f o.ty o.value)
      (λ o k. typed f types constants o.ty o.value told k.1) os h

-- a type is `i1`
pub is_truth : (t : Tree) → is_integer_of 1 t ≡ same_type t (int 1)
is_truth (int w) = refl
is_truth ptr = refl
is_truth void = refl
is_truth (array n t) = refl
is_truth (struct p ts) = refl
is_truth (named x) = refl
