-- Instructions on integers: arithmetic, comparisons and casts.
use Rattle.std.proofs.Common.{◌≡◌, ℕ, ◌+◌, [], ◌∷◌, refl, sym, subst, arith, Bool, true, false, not, ◌&&◌, ◌||◌, nat_le, true≢false, leb-true}
use Rattle.std.proofs.lemmas.Bool.{and_parts}
use Rattle.ir_tables.specs.declared.opcode.Opcode.{Opcode}
use Rattle.ir_tables.specs.declared.opcode.Opcode.TheVariants as op
use Rattle.ir_tables.specs.declared.predicate.Predicate.{Predicate}
use Rattle.ir_eval.specs.Operators.{is_binary}
use Rattle.ir_eval.specs.Value.{IsWidth}
use Rattle.ir_memory.specs.declared.leaf.Leaf.TheVariants as leaf
use Rattle.type_table.specs.Tree.{Tree, int, ptr}
use Rattle.module_arena.specs.Constants.{is_cast_between}
use Rattle.module_arena.specs.Forms as forms
use Rattle.module_arena.specs.Module.{Value}
use Rattle.module_arena.specs.TypeTests.{is_integer, is_pointer}
use Rattle.module_arena.specs.WellFormed.{is_good_type}
use Rattle.run_rules.specs.Action.{Action}
use Rattle.run_rules.specs.Constant.{shape_of, width_of}
use Rattle.run_rules.specs.Scope.{FunctionScope, value_in, scalar_of}
use Rattle.typed_runs.specs.Actions.{Typing, cast_from, IsOrigin, AreOrigins, IsResult, IsPlace, IsTypedAction}
use Rattle.typed_runs.specs.Kinds.{kinds_of}
use Rattle.typed_runs.proofs.OnLook.Constants.{cast_suits}
use Rattle.typed_runs.proofs.OnLook.Origins.{one_origin_typed}
use Rattle.typed_runs.specs.Action.Asked.{HasLeaves}

pub good_width : (w : ℕ) → (nat_le 1 w && nat_le w 128) ≡ true → IsWidth w
good_width w h = let p = and_parts (nat_le 1 w) (nat_le w 128) h in record { some = leb-true 1 w p.0; most = leb-true w 128 p.1 }

pub pointer_width : IsWidth 64
pointer_width = record { some = omega arith; most = omega arith }

same_binary : (o : Opcode) → forms.is_binary o ≡ true → is_binary o ≡ true
same_binary op.Add h = refl
same_binary op.Sub h = refl
same_binary op.Mul h = refl
same_binary op.UDiv h = refl
same_binary op.SDiv h = refl
same_binary op.URem h = refl
same_binary op.SRem h = refl
same_binary op.Shl h = refl
same_binary op.LShr h = refl
same_binary op.AShr h = refl
same_binary op.And h = refl
same_binary op.Or h = refl
same_binary op.Xor h = refl
same_binary _ h = absurd (true≢false (sym h))

module _ (t : Typing) (look : ℕ → ℕ → ℕ → Action) (n : ℕ) (sc : FunctionScope) where
  -- the one leaf of an integer, and of a pointer
  pub integer_leaf : (w : ℕ) (v : Value) → HasLeaves t look n sc (int w) v → IsOrigin t look n (leaf.Int w) (scalar_of sc (int w) v)
  integer_leaf w v h = one_origin_typed t look n (leaf.Int w) (value_in sc (int w) v) h

  pub pointer_leaf : (ty : Tree) (v : Value) → is_pointer ty ≡ true → HasLeaves t look n sc ty v → IsOrigin t look n leaf.Ptr (scalar_of sc ty v)
  pointer_leaf ptr v e h = one_origin_typed t look n leaf.Ptr (value_in sc ptr v) h
  pointer_leaf _ v e h = absurd (true≢false (sym e))

  -- a type that is an integer has a width, and its value one leaf of it
  pub width_leaf : (ty : Tree) (v : Value) → is_integer ty ≡ true → is_good_type sc.names.structs ty ≡ true → HasLeaves t look n sc ty v
      → IsWidth (width_of sc.names ty) × IsOrigin t look n (leaf.Int (width_of sc.names ty)) (scalar_of sc ty v)
  width_leaf (int w) v i g h = (good_width w g, integer_leaf w v h)
  width_leaf _ v i g h = absurd (true≢false (sym i))

  pub compute_typed : (ty : Tree) (opcode : Opcode) (flags to k p : ℕ) (l r : Value) → is_integer ty ≡ true → is_good_type sc.names.structs ty ≡ true → forms.is_binary opcode ≡ true
      → HasLeaves t look n sc ty l → HasLeaves t look n sc ty r → IsResult t look n to (kinds_of (shape_of sc.names ty)) → IsPlace t look n k (p + 1)
      → IsTypedAction t look n k p (Action.Compute to opcode flags (width_of sc.names ty) (scalar_of sc ty l) (scalar_of sc ty r))
  compute_typed (int w) opcode flags to k p l r i g b left right at next = (same_binary opcode b, good_width w g, integer_leaf w l left, integer_leaf w r right, at, next)
  compute_typed _ opcode flags to k p l r i g b left right at next = absurd (true≢false (sym i))

  pub compare_typed : (ty : Tree) (predicate : Predicate) (samesign : Bool) (to k p : ℕ) (l r : Value) → (is_integer ty || (not samesign && is_pointer ty)) ≡ true → is_good_type sc.names.structs ty ≡ true
      → HasLeaves t look n sc ty l → HasLeaves t look n sc ty r → IsResult t look n to (leaf.Int 1 ∷ []) → IsPlace t look n k (p + 1)
      → IsTypedAction t look n k p (Action.Compare to predicate samesign (width_of sc.names ty) (scalar_of sc ty l) (scalar_of sc ty r))
  compare_typed (int w) predicate samesign to k p l r h g left right at next = (good_width w g, (leaf.Int w, refl, integer_leaf w l left, integer_leaf w r right), at, next)
  compare_typed ptr predicate samesign to k p l r h g left right at next = (pointer_width, (leaf.Ptr, refl, pointer_leaf ptr l refl left, pointer_leaf ptr r refl right), at, next)
  compare_typed _ predicate samesign to k p l r h g left right at next = absurd (true≢false (sym (and_parts (not samesign) false h).1))

  cast_widths : (opcode : Opcode) (from to : Tree) → is_cast_between opcode from to ≡ true → is_good_type sc.names.structs from ≡ true → is_good_type sc.names.structs to ≡ true
      → IsWidth (width_of sc.names from) × IsWidth (width_of sc.names to)
  cast_widths op.Trunc (int a) (int b) h g e = (good_width a g, good_width b e)
  cast_widths op.ZExt (int a) (int b) h g e = (good_width a g, good_width b e)
  cast_widths op.SExt (int a) (int b) h g e = (good_width a g, good_width b e)
  cast_widths op.PtrToInt ptr (int b) h g e = (pointer_width, good_width b e)
  cast_widths op.IntToPtr (int a) ptr h g e = (good_width a g, pointer_width)
  cast_widths _ from to h g e = absurd (true≢false (sym h))

  pub convert_typed : (opcode : Opcode) (flags : ℕ) (from ty : Tree) (v : Value) (to k p : ℕ) → is_cast_between opcode from ty ≡ true → is_good_type sc.names.structs from ≡ true → is_good_type sc.names.structs ty ≡ true
      → HasLeaves t look n sc from v → IsResult t look n to (kinds_of (shape_of sc.names ty)) → IsPlace t look n k (p + 1)
      → IsTypedAction t look n k p (Action.Convert to opcode flags (width_of sc.names from) (width_of sc.names ty) (scalar_of sc from v))
  convert_typed opcode flags from ty v to k p h g e has at next =
      let suits = cast_suits sc.names opcode from ty h in
      let widths = cast_widths opcode from ty h g e in (
        widths.0,
        widths.1,
        suits.widths,
        one_origin_typed t look n (cast_from opcode (width_of sc.names from)) (value_in sc from v) (subst (λ ks. AreOrigins t look n ks (value_in sc from v)) suits.takes has),
        subst (λ ks. IsResult t look n to ks) suits.makes at,
        next,
      )
