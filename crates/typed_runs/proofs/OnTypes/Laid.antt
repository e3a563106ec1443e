-- In a type that lies in memory each field begins within reach.
use Rattle.std.proofs.Common.{◌≡◌, ℕ, zero, suc, ◌+◌, ◌≤◌, ◌<◌, ◌^◌, Bool, true, false, Option, Some, None, is_some, unwrap_or, refl, sym, arith, true≢false}
use Rattle.std.specs.Prelude.{⊤, option_and_then, if◌then◌else◌}
use Rattle.std.proofs.lemmas.Bool.{and_parts}
use Rattle.type_table.specs.declared.layout.Layout.{Layout}
use Rattle.type_table.specs.Layout.{has_layout, have_layouts, layout, align, greatest_align, field_start, size, leaves, end_after, field_offset}
use Rattle.type_table.specs.Shape.{Shape, int_leaf, ptr_leaf, void_leaf, opaque_leaf, array_of, struct_of, Shapes, no_shapes, more_shapes, shape}
use Rattle.type_table.specs.Tree.{Tree, Structs}
use Rattle.type_table.proofs.Caps.{field_start-le}
use Rattle.type_table.proofs.Offsets.{end_after-le}
use Rattle.module_arena.specs.TypeTests.{lies_in_memory}
use Rattle.module_arena.specs.WellFormed.{is_good_type, are_good_structs}
use Rattle.run_rules.specs.Leaves.{element, field}
use Rattle.typed_runs.proofs.OnTypes.Sound.{IsSound, AreSound, type_sound}

abbrev mutual
  -- structs of few bytes, at any depth
  pub IsLaid : Shape → Type 0
  IsLaid (int_leaf w) = ⊤
  IsLaid ptr_leaf = ⊤
  IsLaid void_leaf = ⊤
  IsLaid (opaque_leaf label) = ⊤
  IsLaid (array_of n s) = IsLaid s
  IsLaid (struct_of label packed ss) = (size (struct_of label packed ss) ≤ 2 ^ 40) × AreLaid ss

  pub AreLaid : Shapes → Type 0
  AreLaid no_shapes = ⊤
  AreLaid (more_shapes s ss) = IsLaid s × AreLaid ss

mutual
  shape_laid : (s : Shape) → IsSound s → has_layout s ≡ true → IsLaid s
  shape_laid (int_leaf w) h l = tt
  shape_laid ptr_leaf h l = tt
  shape_laid void_leaf h l = tt
  shape_laid (opaque_leaf label) h l = tt
  shape_laid (array_of n s) h l = shape_laid s h l
  shape_laid (struct_of label packed ss) h l = (h.0 l, fields_laid ss h.1 l)

  fields_laid : (ss : Shapes) → AreSound ss → have_layouts ss ≡ true → AreLaid ss
  fields_laid no_shapes h l = tt
  fields_laid (more_shapes s ss) h l = let p = and_parts (has_layout s) (have_layouts ss) l in (shape_laid s h.0 p.0, fields_laid ss h.1 p.1)

field_laid : (ss : Shapes) (k : ℕ) → AreLaid ss → IsLaid (field ss k)
field_laid no_shapes k h = tt
field_laid (more_shapes s ss) zero h = h.0
field_laid (more_shapes s ss) (suc k) h = field_laid ss k h.1

-- so is what an index names
pub element_laid : (s : Shape) (k : ℕ) → IsLaid s → IsLaid (element s k)
element_laid (int_leaf w) k h = tt
element_laid ptr_leaf k h = tt
element_laid void_leaf k h = tt
element_laid (opaque_leaf label) k h = tt
element_laid (array_of n s) k h = h
element_laid (struct_of label packed ss) k h = field_laid ss k h.1

-- a field begins before the fields end
field_before : (packed : Bool) (at : ℕ) (ss : Shapes) (k : ℕ) → unwrap_or (field_offset packed at ss k) 0 ≤ end_after packed at ss
field_before packed at no_shapes k = omega arith
field_before packed at (more_shapes s ss) zero =
    let rest = end_after-le packed (field_start packed at (align s) + size s) ss in
    omega (arith, rest)
field_before packed at (more_shapes s ss) (suc k) = field_before packed (field_start packed at (align s) + size s) ss k

pub offset_small : (packed : Bool) (ss : Shapes) (k : ℕ) → size (struct_of None packed ss) ≤ 2 ^ 40 → unwrap_or (field_offset packed 0 ss k) 0 < 2 ^ 64
offset_small packed ss k h =
    let before = field_before packed 0 ss k in
    let whole = field_start-le false (end_after packed 0 ss) (if packed then 1 else greatest_align ss) in
    omega (arith, before, whole, h)

-- how a shape lies in memory, if it does
abbrev layout_if : Shape → Bool → Option Layout
layout_if s b = if b then Some (record { size = size s; align = align s; leaves = leaves s }) else None

-- a type that lies in memory
pub type_laid : (structs : Structs) → are_good_structs structs ≡ true → (t : Tree) → is_good_type structs t ≡ true → lies_in_memory structs t ≡ true → IsLaid (unwrap_or (shape structs t) void_leaf)
type_laid structs good t h lies = go (shape structs t) (type_sound structs good t h) lies
  where
    has : (s : Shape) (b : Bool) → has_layout s ≡ b → is_some (layout_if s b) ≡ true → has_layout s ≡ true
    has s true e k = e
    has s false e k = absurd (true≢false (sym k))

    go : (o : Option Shape) → IsSound (unwrap_or o void_leaf) → is_some (option_and_then layout o) ≡ true → IsLaid (unwrap_or o void_leaf)
    go None sound k = tt
    go (Some s) sound k = shape_laid s sound (has s (has_layout s) refl k)
