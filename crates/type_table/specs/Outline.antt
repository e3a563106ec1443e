-- For `form_of` and `parts` of run_shapes, and how the code reads: what a type is but for its parts, and the ids of its
-- parts, where a struct's name stands for its body.
use Rattle.std.specs.Prelude.{ℕ, zero, suc, max, Bool, true, false, List, [], ◌∷◌, slice_index_or, Option, Some, None}
use Rattle.std.specs.Option.{option_map_or}
use Rattle.type_table.specs.declared.ir_type.IrType.{IrType}
use Rattle.type_table.specs.declared.ir_type.IrType.TheVariants.{Int, Ptr, Void, Array, Struct, Named}
use Rattle.type_table.specs.declared.ir_type.StructBody.{StructBody}
use Rattle.type_table.specs.declared.ir_type.StructBody.TheVariants.{Opaque, Plain, Packed}
use Rattle.type_table.specs.declared.layout.Layout.{Layout}
use Rattle.type_table.specs.declared.measure.Measure.{Measure}
use Rattle.type_table.specs.declared.outline.TypeOutline.{TypeOutline}
use Rattle.type_table.specs.declared.outline.TypeOutline.TheVariants as heads
use Rattle.type_table.specs.Layout.{field_start}
use Rattle.type_table.specs.Measures.{capped, with_field}
use Rattle.type_table.specs.Shape.{nesting}
use Rattle.type_table.specs.Types.{Types, bodies, shape}

-- what the body of a struct is but for its parts
abbrev pub body_head : Option StructBody → TypeOutline
body_head None = heads.Opaque
body_head (Some Opaque) = heads.Opaque
body_head (Some (Plain parts)) = heads.Struct false
body_head (Some (Packed parts)) = heads.Struct true

-- the ids of the parts of a body
abbrev pub body_parts : Option StructBody → List ℕ
body_parts None = []
body_parts (Some Opaque) = []
body_parts (Some (Plain parts)) = parts
body_parts (Some (Packed parts)) = parts

-- what a type is but for its parts
abbrev pub type_head : List (Option StructBody) → IrType → TypeOutline
type_head bs (Int w) = heads.Int w
type_head bs Ptr = heads.Ptr
type_head bs Void = heads.Void
type_head bs (Array n part) = heads.Array n
type_head bs (Struct packed parts) = heads.Struct packed
type_head bs (Named id) = body_head (slice_index_or bs id None)

-- the ids of the parts of a type
abbrev pub type_parts : List (Option StructBody) → IrType → List ℕ
type_parts bs (Int w) = []
type_parts bs Ptr = []
type_parts bs Void = []
type_parts bs (Array n part) = part ∷ []
type_parts bs (Struct packed parts) = parts
type_parts bs (Named id) = body_parts (slice_index_or bs id None)

-- what the type with this id is but for its parts
abbrev pub head_of : Types → ℕ → TypeOutline
head_of t ty = type_head (bodies t) (slice_index_or t.types ty Void)

-- the ids of the parts of the type with this id
abbrev pub parts_of : Types → ℕ → List ℕ
parts_of t ty = type_parts (bodies t) (slice_index_or t.types ty Void)

-- how deep a type nests
abbrev pub type_nesting : Types → ℕ → ℕ
type_nesting t ty = option_map_or nesting (shape t ty) 0

-- where a field begins that follows what is laid out so far
abbrev pub next_offset : Bool → Option Layout → Option Layout → Option ℕ
next_offset packed None field = None
next_offset packed (Some l) None = None
next_offset packed (Some l) (Some field) = Some (field_start packed (capped l.size) (max 1 field.align))

-- where the field with that index begins, after the fields so far
abbrev pub offset_from : Bool → Measure → List Measure → ℕ → Option ℕ
offset_from packed sofar [] field = None
offset_from packed sofar (m ∷ ms) zero = next_offset packed sofar.layout m.layout
offset_from packed sofar (m ∷ ms) (suc field) = offset_from packed (with_field packed sofar m) ms field
