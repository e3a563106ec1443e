-- For `layout` and `offset`: how a type lies in memory (LangRef, "Data Layout"): sums and roundings over its shape.
use Rattle.std.specs.Prelude.{ℕ, zero, suc, ◌+◌, ◌*◌, ◌/◌, max, nat_le, Bool, true, false, ◌&&◌, Option, Some, None, if◌then◌else◌}
use Rattle.std.specs.Int.{next_multiple_of}
use Rattle.type_table.specs.declared.layout.Layout.{Layout}
use Rattle.type_table.specs.Shape.{Shape, int_leaf, ptr_leaf, void_leaf, opaque_leaf, array_of, struct_of, Shapes, no_shapes, more_shapes}

abbrev mutual
  -- whether a type lies in memory at all: it is and holds no `void` and no struct without a body
  pub has_layout : Shape → Bool
  has_layout (int_leaf w) = true
  has_layout ptr_leaf = true
  has_layout void_leaf = false
  has_layout (opaque_leaf label) = false
  has_layout (array_of n s) = has_layout s
  has_layout (struct_of label packed ss) = have_layouts ss

  -- the same of several shapes
  pub have_layouts : Shapes → Bool
  have_layouts no_shapes = true
  have_layouts (more_shapes s ss) = has_layout s && have_layouts ss

-- the alignment of an integer, from its width in bits
abbrev pub int_align : ℕ → ℕ
int_align w =
    if nat_le w 8 then 1 else (if nat_le w 16 then 2 else (if nat_le w 32 then 4 else (if nat_le w 64 then 8 else 16)))

abbrev mutual
  -- the alignment of a shape in bytes
  pub align : Shape → ℕ
  align (int_leaf w) = int_align w
  align ptr_leaf = 8
  align void_leaf = 1
  align (opaque_leaf label) = 1
  align (array_of n s) = align s
  align (struct_of label packed ss) = if packed then 1 else greatest_align ss

  -- 1 where there is no shape
  pub greatest_align : Shapes → ℕ
  greatest_align no_shapes = 1
  greatest_align (more_shapes s ss) = max (align s) (greatest_align ss)

-- where a field of that alignment begins, if the fields before it end `at` that byte. A packed struct has no gaps
abbrev pub field_start : Bool → ℕ → ℕ → ℕ
field_start packed at field_align = if packed then at else next_multiple_of at field_align

-- the bytes that an integer takes when it is stored, rounded up to its alignment
abbrev pub int_size : ℕ → ℕ
int_size w = next_multiple_of ((w + 7) / 8) (int_align w)

abbrev mutual
  -- the size of a shape in bytes
  pub size : Shape → ℕ
  size (int_leaf w) = int_size w
  size ptr_leaf = 8
  size void_leaf = 0
  size (opaque_leaf label) = 0
  size (array_of n s) = n * size s
  size (struct_of label packed ss) = next_multiple_of (end_after packed 0 ss) (if packed then 1 else greatest_align ss)

  -- where the fields end that follow what ends `at` that byte
  pub end_after : Bool → ℕ → Shapes → ℕ
  end_after packed at no_shapes = at
  end_after packed at (more_shapes s ss) = end_after packed (field_start packed at (align s) + size s) ss

abbrev mutual
  -- the integers and pointers of a value, written out
  pub leaves : Shape → ℕ
  leaves (int_leaf w) = 1
  leaves ptr_leaf = 1
  leaves void_leaf = 0
  leaves (opaque_leaf label) = 0
  leaves (array_of n s) = n * leaves s
  leaves (struct_of label packed ss) = all_leaves ss

  -- the same of several shapes together
  pub all_leaves : Shapes → ℕ
  all_leaves no_shapes = 0
  all_leaves (more_shapes s ss) = leaves s + all_leaves ss

-- the layout of a shape, where it has one
abbrev pub layout : Shape → Option Layout
layout s = if has_layout s then Some (record { size = size s; align = align s; leaves = leaves s }) else None

-- where the field with that index begins
abbrev pub field_offset : Bool → ℕ → Shapes → ℕ → Option ℕ
field_offset packed at no_shapes field = None
field_offset packed at (more_shapes s ss) zero = Some (field_start packed at (align s))
field_offset packed at (more_shapes s ss) (suc field) = field_offset packed (field_start packed at (align s) + size s) ss field

-- the same for a type that is a struct with a layout
abbrev pub offset : Shape → ℕ → Option ℕ
offset (int_leaf w) field = None
offset ptr_leaf field = None
offset void_leaf field = None
offset (opaque_leaf label) field = None
offset (array_of n s) field = None
offset (struct_of label packed ss) field = if have_layouts ss then field_offset packed 0 ss field else None
