-- For `width`, `layout_of`, `element`, `part_of` and `push_slots`: the shapes of the types of a table.
use Rattle.std.specs.Prelude.{◌≡◌, ℕ, suc, ◌<◌, ⊤, Bool, true, false, List, [], ◌∷◌, Option, Some, None, unwrap_or}
use Rattle.type_table.specs.declared.ir_type.StructBody.{StructBody}
use Rattle.type_table.specs.declared.ir_type.StructBody.TheVariants.{Opaque, Plain, Packed}
use Rattle.type_table.specs.declared.layout.Layout.{Layout}
use Rattle.type_table.specs.Layout.{size, align, leaves, field_offset}
use Rattle.type_table.specs.Shape.{Label, Shape, int_leaf, ptr_leaf, void_leaf, opaque_leaf, array_of, struct_of, Shapes, no_shapes, more_shapes}
use Rattle.type_table.specs.Types.{Types, shape}
use Rattle.run_rules.specs.Leaves.{element}
use Rattle.run_names.specs.declared.shapes.form.TypeForm.{TypeForm}
use Rattle.run_names.specs.declared.shapes.form.TypeForm.TheVariants as form

-- the shape of a type; each type of a table has one
abbrev pub shape_in : Types → ℕ → Shape
shape_in t ty = unwrap_or (shape t ty) void_leaf

-- the shapes of types one after another
abbrev pub shapes_in : Types → List ℕ → Shapes
shapes_in t [] = no_shapes
shapes_in t (id ∷ ids) = more_shapes (shape_in t id) (shapes_in t ids)

-- how a shape lies in memory
abbrev pub laid_out : Shape → Layout
laid_out s = record { size = size s; align = align s; leaves = leaves s }

-- what the body of a struct is but for its fields
abbrev pub body_form : Option StructBody → TypeForm
body_form None = form.Opaque
body_form (Some Opaque) = form.Opaque
body_form (Some (Plain parts)) = form.Struct false
body_form (Some (Packed parts)) = form.Struct true

-- the first of some shapes
abbrev pub first_shape : Shapes → Shape
first_shape no_shapes = void_leaf
first_shape (more_shapes s ss) = s

-- the shape of that form with these parts, under that label
abbrev pub made : Label → TypeForm → Shapes → Shape
made label (form.Int w) ss = int_leaf w
made label form.Pointer ss = ptr_leaf
made label form.Nothing ss = void_leaf
made label form.Opaque ss = opaque_leaf label
made label (form.Array n) ss = array_of n (first_shape ss)
made label (form.Struct packed) ss = struct_of label packed ss

-- a shape is of that form with these parts, whatever its label
pub record IsMade (f : TypeForm) (ss : Shapes) (s : Shape) : Type 0 where
  pub label : Label
  pub is : s ≡ made label f ss

-- an array has one part, the type of its elements
abbrev pub HasCount : TypeForm → ℕ → Type 0
HasCount (form.Array n) count = count ≡ 1
HasCount (form.Int w) count = ⊤
HasCount form.Pointer count = ⊤
HasCount form.Nothing count = ⊤
HasCount form.Opaque count = ⊤
HasCount (form.Struct packed) count = ⊤

-- how many fields there are
abbrev pub field_count : Shapes → ℕ
field_count no_shapes = 0
field_count (more_shapes s ss) = suc (field_count ss)

-- there is an element or a field with that index
abbrev pub HasElement : Shape → ℕ → Type 0
HasElement (int_leaf w) index = ⊥
HasElement ptr_leaf index = ⊥
HasElement void_leaf index = ⊥
HasElement (opaque_leaf label) index = ⊥
HasElement (array_of n s) index = index < n
HasElement (struct_of label packed ss) index = index < field_count ss

-- indices lead to a part, each within the part before
abbrev pub HasPath : Shape → List ℕ → Type 0
HasPath s [] = ⊤
HasPath s (i ∷ is) = HasElement s i × HasPath (element s i) is

-- the shape of the elements of an array
abbrev pub elements_of : Shape → Option Shape
elements_of (array_of n s) = Some s
elements_of (int_leaf w) = None
elements_of ptr_leaf = None
elements_of void_leaf = None
elements_of (opaque_leaf label) = None
elements_of (struct_of label packed ss) = None

-- a struct with a body
abbrev pub is_struct : Shape → Bool
is_struct (struct_of label packed ss) = true
is_struct (int_leaf w) = false
is_struct ptr_leaf = false
is_struct void_leaf = false
is_struct (opaque_leaf label) = false
is_struct (array_of n s) = false

-- where a field begins, if there is such a field
abbrev pub offset_in : Shape → ℕ → Option ℕ
offset_in (struct_of label packed ss) index = field_offset packed 0 ss index
offset_in (int_leaf w) index = None
offset_in ptr_leaf index = None
offset_in void_leaf index = None
offset_in (opaque_leaf label) index = None
offset_in (array_of n s) index = None
