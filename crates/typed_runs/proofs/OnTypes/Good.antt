-- The leaves of a good type.
use Rattle.std.proofs.Common.{◌≡◌, ℕ, zero, suc, ◌+◌, List, Bool, true, unwrap_or}
use Rattle.std.specs.List.{AllByRecursion}
use Rattle.std.proofs.lemmas.List.Elements.{All-from_recursion}
use Rattle.ir_memory.specs.Given.{IsLeaf}
use Rattle.type_table.specs.Layout.{size, align, field_start}
use Rattle.type_table.specs.Shape.{Shape, int_leaf, ptr_leaf, void_leaf, opaque_leaf, array_of, struct_of, Shapes, no_shapes, more_shapes, shape}
use Rattle.type_table.specs.Tree.{Tree, Structs}
use Rattle.module_arena.specs.WellFormed.{is_good_type, are_good_structs}
use Rattle.run_rules.proofs.OnPlaces.Together.{all_append}
use Rattle.run_rules.specs.Leaves.{Slot, repeated, slots_at, field_slots, slots}
use Rattle.typed_runs.specs.Types.Laws.{GoodTypesAreSound}
use Rattle.typed_runs.proofs.OnTypes.Aligned.{shape_aligned}
use Rattle.typed_runs.proofs.OnTypes.Sound.{IsSound, AreSound, some_shape, has_shape, type_sound}

-- a leaf that memory takes
abbrev pub IsGoodSlot : Slot → Type 0
IsGoodSlot x = IsLeaf x.leaf

repeated_good : (n : ℕ) (element : ℕ → List Slot) (at step : ℕ) → ((at : ℕ) → AllByRecursion IsGoodSlot (element at)) → AllByRecursion IsGoodSlot (repeated n element at step)
unfolding repeated
repeated_good zero element at step h = tt
repeated_good (suc n) element at step h = all_append IsGoodSlot (element at) (repeated n element (at + step) step) (h at) (repeated_good n element (at + step) step h)

mutual
  slots_good : (s : Shape) (at : ℕ) → IsSound s → AllByRecursion IsGoodSlot (slots_at s at)
  slots_good (int_leaf w) at h = (h, tt)
  slots_good ptr_leaf at h = (tt, tt)
  slots_good void_leaf at h = tt
  slots_good (opaque_leaf label) at h = tt
  slots_good (array_of n s) at h = repeated_good n (slots_at s) at (size s) (λ bt. slots_good s bt h)
  slots_good (struct_of label packed ss) at h = fields_good ss packed at 0 h.1

  fields_good : (ss : Shapes) (packed : Bool) (at end : ℕ) → AreSound ss → AllByRecursion IsGoodSlot (field_slots ss packed at end)
  fields_good no_shapes packed at end h = tt
  fields_good (more_shapes s ss) packed at end h =
      all_append IsGoodSlot (slots_at s (at + field_start packed end (align s))) (field_slots ss packed at (field_start packed end (align s) + size s)) (slots_good s (at + field_start packed end (align s)) h.0)
      (fields_good ss packed at (field_start packed end (align s) + size s) h.1)

-- those of a good type
pub leaves_good : (structs : Structs) → are_good_structs structs ≡ true → (t : Tree) → is_good_type structs t ≡ true → AllByRecursion IsGoodSlot (slots (unwrap_or (shape structs t) void_leaf))
leaves_good structs good t h = slots_good (unwrap_or (shape structs t) void_leaf) 0 (type_sound structs good t h)

pub good_types_are_sound : GoodTypesAreSound
good_types_are_sound structs good t h =
    let s = unwrap_or (shape structs t) void_leaf in
    (s, some_shape structs good (shape structs t) (has_shape structs good t h), record { leaves = All-from_recursion IsGoodSlot (slots s) (leaves_good structs good t h); alignment = shape_aligned s })
